-- The named bits of the special function registers, from the family manual, each counted from bit 0 of its register.
pub use Rattle.m51_sfr.specs.declared.bits.TheConstants.{IDL as idl, PD as pd, SMOD as smod, IT0 as it0, IE0 as ie0}
pub use Rattle.m51_sfr.specs.declared.bits.TheConstants.{IT1 as it1, IE1 as ie1, TR0 as tr0, TF0 as tf0, TR1 as tr1}
pub use Rattle.m51_sfr.specs.declared.bits.TheConstants.{TF1 as tf1, RI as ri, TI as ti, RB8 as rb8, TB8 as tb8}
pub use Rattle.m51_sfr.specs.declared.bits.TheConstants.{REN as ren, SM2 as sm2, SM1 as sm1, SM0 as sm0, EX0 as ex0}
pub use Rattle.m51_sfr.specs.declared.bits.TheConstants.{ET0 as et0, EX1 as ex1, ET1 as et1, ES as es, ET2 as et2}
pub use Rattle.m51_sfr.specs.declared.bits.TheConstants.{EA as ea, PX0 as px0, PT0 as pt0, PX1 as px1, PT1 as pt1}
pub use Rattle.m51_sfr.specs.declared.bits.TheConstants.{PS as ps, PT2 as pt2, CPRL2 as cprl2, CT2 as ct2, TR2 as tr2}
pub use Rattle.m51_sfr.specs.declared.bits.TheConstants.{EXEN2 as exen2, TCLK as tclk, RCLK as rclk, EXF2 as exf2}
pub use Rattle.m51_sfr.specs.declared.bits.TheConstants.{TF2 as tf2}
