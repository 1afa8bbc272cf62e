-- Of the code: the names that lines order, kept once for each class.
use Rattle.std.specs.Prelude.{◌≡◌, ℕ, List, Some, None}
use Rattle.m51_control.specs.declared.control.Class.TheVariants.{Bitaddressable, Bits, Direct, Idata, Xdata, Code}
use Rattle.m51_control.specs.declared.control.Control.{Control}
use Rattle.m51_place.specs.declared.naming.Namings.{Namings}
use Rattle.m51_place.specs.Order.{ordered_names}

-- these are the names that the lines order of each class
pub record AreNamings (controls : List (ℕ × Control)) (n : Namings) : Type 0 where
  pub bitaddressable : n.bitaddressable.items ≡ ordered_names controls (Some Bitaddressable)
  pub bits : n.bits.items ≡ ordered_names controls (Some Bits)
  pub direct : n.direct.items ≡ ordered_names controls (Some Direct)
  pub idata : n.idata.items ≡ ordered_names controls (Some Idata)
  pub xdata : n.xdata.items ≡ ordered_names controls (Some Xdata)
  pub code : n.code.items ≡ ordered_names controls (Some Code)
  pub other : n.other.items ≡ ordered_names controls None
