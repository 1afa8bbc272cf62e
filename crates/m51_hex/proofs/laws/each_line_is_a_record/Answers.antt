use Rattle.m51_hex.proofs.RecordLaws.{read_is_text}
use Rattle.m51_hex.proofs.RecordLaws.{text_is_read}
use Rattle.m51_hex.proofs.laws.each_line_is_a_record.Goals as goal

pub returns : goal.returns
returns c = λ number line r. (λ read. read_is_text number line r read, λ h. text_is_read number line r h.0 h.1)
