-- What a library answers by what its bytes and its modules answer.
use Rattle.std.proofs.Common.{◌≡◌, ◌≢◌, ℕ, List, [], Some, Result, Ok, Err, All, subst, ap, sym, ◌∙◌}
use Rattle.std.specs.Prelude.{IfErr, IfOk}
use Rattle.m51_cells.specs.Outcome.{Gives, RefusesWith}
use Rattle.m51_module.specs.declared.library_error.LibError.{LibError}
use Rattle.m51_module.specs.declared.library_error.LibError.TheVariants.{Object, Memory}
use Rattle.m51_module.specs.declared.object_error.ObjError.{ObjError}
use Rattle.m51_module.specs.declared.object_error.ObjError.TheVariants.{Memory as NoRoom}
use Rattle.m51_module.specs.declared.parts.ModuleParts.{ModuleParts}
use Rattle.m51_cells.specs.Outcome.{and_then}
use Rattle.m51_module.specs.Library.{IsLibrary, refusal_of, built}
use Rattle.m51_module.specs.Validity.{IsValid}
use Rattle.m51_frame.specs.Fields.{record_refusal as byte_refusal_of}
use Rattle.m51_library.specs.Spelling.{library_bytes}
use Rattle.m51_library.specs.Reading.{modules_of, refused_by, or_object, library_of}
use Rattle.m51_library.proofs.LibraryLaws.{library_again}
use Rattle.m51_library.proofs.Accepting.{IsOfModules, refuses_so, makes_all}

-- the modules answer for the library
abbrev Built : Type 0
Built = Result (List ModuleParts) LibError

of_modules : (file : List ℕ) (ms : List ModuleParts) → modules_of file ≡ Ok ms → library_of file ≡ built ms
of_modules file ms e = ap (λ r. and_then (or_object r) built) e

of_bytes : (file : List ℕ) (e : ObjError) → modules_of file ≡ Err e → library_of file ≡ Err (Object e)
of_bytes file e h = ap (λ r. and_then (or_object r) built) h

also_refused : (error : LibError) (answer : Built) → answer ≡ Err error → RefusesWith (refusal_of error) answer
also_refused Memory answer h = tt
also_refused error answer h = h

pub made : (result : Built) (file : List ℕ) (ms : List ModuleParts) → modules_of file ≡ Ok ms
    → Gives (λ library. library) Some result (built ms)
    → Gives (λ library. library) refusal_of result (library_of file)
made (Ok library) file ms e h = of_modules file ms e ∙ h
made (Err error) file ms e h = also_refused error (library_of file) (of_modules file ms e ∙ h)

pub made_found : (result : Built) (file : List ℕ) (ms : List ModuleParts) → file ≡ library_bytes ms
    → Gives (λ library. library) Some result (built ms)
    → IfOk result (λ library. file ≡ library_bytes library)
made_found (Ok library) file ms found h = found ∙ ap library_bytes (sym (makes_all [] ms library h))
made_found (Err error) file ms found h = tt

no_memory : (error : LibError) → IsOfModules error → error ≢ Object NoRoom
no_memory (Object refusal) h e = h
no_memory error h e = absurd (cc e)

pub made_memory : (result : Built) (ms : List ModuleParts) → Gives (λ library. library) Some result (built ms)
    → IfErr result (λ error. error ≢ Object NoRoom)
made_memory (Ok library) ms h = tt
made_memory (Err error) ms h = no_memory error (refuses_so [] ms error h)

pub refused : (error : ObjError) (file : List ℕ) → RefusesWith (byte_refusal_of error) (modules_of file)
    → RefusesWith (refusal_of (refused_by error)) (library_of file)
refused NoRoom file h = tt
refused error file h = of_bytes file error h

pub refused_memory : (error : ObjError) → refused_by error ≢ Object NoRoom
refused_memory NoRoom e = cc
refused_memory error e = cc

-- a library that is spelled so
pub again : (result : Built) (file : List ℕ) (ms : List ModuleParts) → IsLibrary ms → All IsValid ms → file
    ≡ library_bytes ms
    → Gives (λ library. library) refusal_of result (library_of file)
    → Gives (λ library. library) refusal_of result (Ok ms)
again result file ms library valid is h =
    let P : Built → Type 0 = λ answer. Gives (λ library. library) refusal_of result answer in
    subst P (library_again ms file library valid is) h
