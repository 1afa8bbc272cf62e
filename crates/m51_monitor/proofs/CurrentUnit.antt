-- The current unit covers PC, before a move and after it.
use Rattle.m51_monitor.proofs.Common.{◌≡◌, ℕ, ◌<◌, Option, List, [], ◌∷◌, refl, arith, Covers, Effect}
use Rattle.m51_monitor.proofs.Common.{Transfer, sp, LayoutParts, IsRootAt, IsUnitAt, IsSound, Move, ReturnRecord}
use Rattle.m51_monitor.proofs.Common.{Records, current, IsFoundAt, jumped, moved}
use Rattle.std.proofs.Common.{◌≤◌, ◌%◌, ◌+◌, ◌-◌}
use Rattle.m51_cells.specs.declared.kind.Kind.TheVariants.{Code}
use Rattle.m51_module.specs.Cells.{extent_at}
use Rattle.m51_module.specs.declared.placed.Placed.{Placed}
use Rattle.m51_module.specs.Plan.{IsUnit}
use Rattle.m51_monitor.specs.Frames.{EndsAt, IsPast}
use Rattle.m51_flat.specs.Sfr.{latch}
use Rattle.m51_module.proofs.Units.{root_at}
use Rattle.m51_module.specs.Cells.{code_cell}
use Rattle.m51_monitor.specs.Laws.{CoversIsKept, GoesToVector}
use Rattle.m51_monitor.specs.Transfers.{IsRootWanted}
use Rattle.m51_flat.specs.Vectors.{vector_of}
use Rattle.m51_monitor.proofs.Moving.{Taken, Continues, Stays, Jumps, Nears, Calls, Returns, Ends, Vectors}
use Rattle.m51_monitor.proofs.Moving.{judged_taken}

pub jumped_current : (reset : List ℕ) (rs : List ReturnRecord) (u : ℕ) → current (jumped reset rs u) ≡ u
jumped_current reset [] u = refl
jumped_current reset (r ∷ rs) u = refl

-- a root covers its vector
pub root_covers : (l : LayoutParts) (vector u : ℕ) → IsSound l → IsRootAt l vector u → IsUnitAt l vector u
root_covers l vector u sound h = root_at l sound vector u h

-- after a move
covers : (l : LayoutParts) (a : Records) (e : Effect) (top new to : ℕ) (t : Transfer) (at root : Option ℕ) (m : Move)
    → IsSound l → GoesToVector t e.cpu.pc → IsFoundAt l e.cpu.pc at → IsRootWanted l t root
    → Taken l a top new to at root t m → IsUnitAt l e.cpu.pc (current (moved a e m))
covers l a e top new to t at root m sound there h w (Vectors source u is fresh above) =
    rw there (root_at l sound (vector_of source) u (rw is at w))
covers l a e top new to t at root m sound there h w (Jumps u edge is above) =
    rw (jumped_current a.reset a.returns u) (rw is at h)
covers l a e top new to t at root m sound there h w (Returns r rs are call same back is) = rw are (rw is at h)
covers l a e top new to t at root m sound there h w (Ends r rs are call same back is) = rw are (rw is at h)
covers l a e top new to t at root m sound there h w (Continues is above) = rw is at h
covers l a e top new to t at root m sound there h w (Stays is above) = rw is at h
covers l a e top new to t at root m sound there h w (Nears is above) = rw is at h
covers l a e top new to t at root m sound there h w (Calls u edge is above) = rw is at h

pub covers_is_kept : CoversIsKept
covers_is_kept m cpu e step sound at j =
    covers m.layout m.records e (latch cpu sp) (latch e.cpu sp) e.cpu.pc e.transfer j.at j.root step sound at j.at_is
    j.root_is (grind (arith, judged_taken))

-- a unit is one extent
same_unit : (l : LayoutParts) (unit : ℕ) (p q : Placed) → IsUnit l unit p → IsUnit l unit q → p ≡ q
same_unit l unit p q h k = let e : h.segment ≡ k.segment = cc (h.unit_is, k.unit_is) in cc (h.placed, k.placed, e)

-- the addresses of an extent of program memory
code_range : (p : Placed) (a : ℕ) → p.kind ≡ Code → Covers (extent_at p) (code_cell a)
    → (p.base ≤ a) × (a < p.base + p.size)
code_range p a code h = let k = rw code at h in (k.from, k.below)

code_covers : (p : Placed) (a : ℕ) → p.kind ≡ Code → p.base ≤ a → a < p.base + p.size
    → Covers (extent_at p) (code_cell a)
code_covers p a code low high = rw code (record { space = refl; from = low; below = high })

module _ (l : LayoutParts) (sound : IsSound l) (from unit end : ℕ) (at : IsUnitAt l from unit)
    (ends : EndsAt l unit end) where
  code : ends.is.kind ≡ Code
  code =
      let k = sound.is_code unit ends.unit_is.segment ends.unit_is.unit_is in
      let e : ends.is ≡ k.0 = cc (ends.unit_is.placed, k.1) in
      rw e k.2.kind

  range : (a : ℕ) → IsUnitAt l a unit → (ends.is.base ≤ a) × (a < ends.is.base + ends.is.size)
  range a k = code_range ends.is a code (rw (same_unit l unit k.is ends.is k.unit_is ends.unit_is) at k.covers)

  -- it ends inside program memory
  low_end : ends.is.base + ends.is.size ≤ 65536
  low_end =
      let r = range from at in
      let last = ends.is.base + ends.is.size - 1 in
      let inside = rw code at (sound.fit ends.unit_is.segment ends.is ends.unit_is.placed).inside in
      let h = inside (code_cell last)
      (record { space = refl; from = omega (arith, r.0, r.1); below = omega (arith, r.0, r.1) }) in
      omega (arith, h)

  -- bytes that end with the unit or before lie in it
  pub all_held : (count : ℕ) → from + count ≤ end → (n : ℕ) → n < count → IsUnitAt l ((from + n) % 65536) unit
  all_held count h n below =
      let r = range from at in
      record {
        is = ends.is;
        unit_is = ends.unit_is;
        covers = code_covers ends.is ((from + n) % 65536) code
            (omega (arith, r.0, h, below, ends.end_is, low_end)) (omega (arith, h, below, ends.end_is, low_end));
      }

  -- of others the one after it does not
  pub one_past : (count : ℕ) → end < from + count → IsPast l from count unit
  one_past count h =
      let r = range from at in
      record {
        index = end - from;
        below = omega (arith, r.1, h, ends.end_is);
        outside = λ k. let q = range ((from + (end - from)) % 65536) k in
            omega (arith, q.0, q.1, r.1, ends.end_is, ends.small, low_end);
      }
