use Rattle.std.proofs.Common.{◌≡◌, false, ap, ◌∙◌}
use Rattle.m51_frame.specs.Fields.{is_name_among}
use Rattle.m51_records.specs.WorkNames.{items_of}
use Rattle.m51_records.proofs.EntryLaws.{put_last}
use Rattle.m51_records.proofs.seen.SeenNames.note.Goals as goal

pub returns : goal.returns
returns c =
    let keys = c.self.inside.names.keys in
    let key_is : c.in_ok-key.key.items ≡ c.args.name.now = c.in_ok-key.ensures.items ∙ c.bytes.ensures.bytes in
    let absent : is_name_among (items_of keys) c.in_ok-key.key.items ≡ false = rw (key_is, c.self.view_is) c.requires in
    cc (ap items_of c.in_ok-insert.ensures.keys, put_last keys c.in_ok-key.key absent, key_is, c.self.view_is)
