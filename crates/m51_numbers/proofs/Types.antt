-- Each record has its type.
use Rattle.std.proofs.Common.{refl}
use Rattle.m51_numbers.specs.Records.{RecordsHaveTypes}

pub records_have_types : RecordsHaveTypes
records_have_types = record {
  header = λ name version. refl;
  segment = λ s. refl;
  external = λ e. refl;
  public_name = λ p. refl;
  content = λ p. refl;
  fixup = λ f. refl;
  end_of_module = λ name banks. refl;
  library = refl;
}
