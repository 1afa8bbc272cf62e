use Rattle.m51_chain.proofs.Common.{Err, length, refl, ◌+◌}
use Rattle.m51_chain.specs.ProgramFiles.{AreAnswered, IsFilesOutcome, Nothing, ProgramFiles, Refused, program_files}
use Rattle.std.specs.Prelude.{option_to_list}
use Rattle.std.proofs.lemmas.List.{take_rest}
use Rattle.m51_chain.proofs.Following.{error_told}
use Rattle.m51_chain.proofs.linking.inputs_in.Goals as goal

pub returns-in_ok-refuse_inputs-in-Err : goal.returns-in_ok-refuse_inputs-in-Err
returns-in_ok-refuse_inputs-in-Err c =
    let files : ProgramFiles = program_files c.args.files.now c.args.control.now c.args.script.now in
    let given : AreAnswered files c.args.contents.now (Err c.in-Err.error) =
    rw (
      c.content_if-control_content.ensures,
      c.content_if-script_content.ensures,
      c.count_of.ensures.value,
      take_rest c.args.contents.now (length c.args.files.now),
      take_rest c.args.contents.now (length c.args.files.now + length (option_to_list c.args.control.now)),
    )
    at (rw (error_told c.in-Err.error c.refuse_inputs.ensures.error) at c.in-Err.ensures) in
    let refused : IsFilesOutcome files c.args.contents.now Nothing _ =
    record { given = Err c.in-Err.error; answer = given; is = Refused c.in-Err.error refl refl } in
    rw c.in_ok-refuse_inputs-in-Err.ensures.stop refused
