-- Steps that were not refused.
use Rattle.std.proofs.Common.{◌≡◌, ℕ, Bool, true, List, [], Option, Some, Result, Ok, Err, refl, arith}
use Rattle.m51_module.specs.declared.object_error.ObjError.{ObjError}
use Rattle.m51_frame.specs.Fields.{◌>>=◌, checked, or_broken, or_absent, ended}

-- what is to be shown of the value of a step that was not refused
pub on_ok : {A B : Type 0} (r : Result A ObjError) (f : A → Result B ObjError) (y : B) (P : Type 0)
    → ((x : A) → r ≡ Ok x → f x ≡ Ok y → P) → (r >>= f) ≡ Ok y → P
on_ok (Ok x) f y P k e = k x refl e
on_ok (Err d) f y P k e = absurd cc

abbrev pub done : {A : Type 0} → A → Result A ObjError
done x = Ok x

pub ok_is : {A : Type 0} (x y : A) → done x ≡ done y → x ≡ y
ok_is x y e = cc

pub checked_ok : {A : Type 0} (b : Bool) (end : ℕ) (field : List ℕ) (x y : A) → checked b end field x ≡ Ok y
    → (b ≡ true) × (x ≡ y)
checked_ok b end field x y e = grind arith

pub broken_ok : {A : Type 0} (o : Option A) (end : ℕ) (field : List ℕ) (y : A) → or_broken o end field ≡ Ok y → o
    ≡ Some y
broken_ok o end field y e = grind arith

pub absent_ok : {A : Type 0} (o : Option A) (end : ℕ) (field : List ℕ) (y : A) → or_absent o end field ≡ Ok y → o
    ≡ Some y
absent_ok o end field y e = grind arith

pub ended_ok : {A : Type 0} (end : ℕ) (rest : List ℕ) (x y : A) → ended end rest x ≡ Ok y → (rest ≡ []) × (x ≡ y)
ended_ok end rest x y e = grind arith
