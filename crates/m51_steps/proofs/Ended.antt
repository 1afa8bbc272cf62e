-- A run with notes after a text, and before another.
use Rattle.std.proofs.Common.{◌≡◌, ℕ, List, ◌++◌, Option, Result, Ok, Err, append_assoc, sym, ap, ◌∙◌, subst}
use Rattle.std.specs.Prelude.{OnErr}
use Rattle.std.specs.Io.KnownBytes.{Appends}
use Rattle.std.proofs.KnownBytes.{Appends-trans}
use Rattle.m51_cells.proofs.Fronts.{front_at_end}
use Rattle.m51_cells.specs.Outside.{AppendsFront}
use Rattle.m51_cells.specs.declared.event.Event.{Event}
use Rattle.m51_shelf.specs.declared.sink.Failed.{Failed}
use Rattle.m51_sim.specs.Boards.{BoardState}
use Rattle.m51_sim.specs.Runs.{Record, State}
use Rattle.m51_steps.specs.Noted.{IsNoted, IsWholeNoted}
use Rattle.m51_steps.specs.Traced.{ending_by, heading, noted_run, run_table, traced_text}
use Rattle.m51_steps.specs.declared.shape.Shape.{Shape}

traced_is : (shape : Shape) (board : BoardState) (n : ℕ)
    → traced_text shape board n
    ≡ heading shape ++ (noted_run shape board n ++ ending_by shape board.chip.image (run_table board n))
unfolding traced_text
traced_is shape board n =
    append_assoc (heading shape) (noted_run shape board n) (ending_by shape board.chip.image (run_table board n))

module _ {M : Type 0} (record_is : Record M) (now : State M) where
  -- a text before it
  pub noted_after : (a b c : Option (List ℕ)) (xs ys : List ℕ) (r : Result (Option Event) Failed)
      → Appends a b xs → IsNoted b c ys record_is now r → IsNoted a c (xs ++ ys) record_is now r
  noted_after a b c xs ys (Ok event) p h =
      record { event_is = h.event_is; last = h.last; text_is = Appends-trans a b c xs ys p h.text_is }
  noted_after a b c xs ys (Err failed) p h = front_at_end a b c xs ys p h

  -- a text after it
  pub noted_then : (a b c : Option (List ℕ)) (xs ys : List ℕ) (event : Option Event)
      → IsWholeNoted a b xs record_is now event → Appends b c ys → IsWholeNoted a c (xs ++ ys) record_is now event
  noted_then a b c xs ys event h p =
      record { event_is = h.event_is; last = h.last; text_is = Appends-trans a b c xs ys h.text_is p }

  pub noted_then_cut : (a b c : Option (List ℕ)) (xs ys : List ℕ) (event : Option Event)
      → IsWholeNoted a b xs record_is now event → AppendsFront b c ys → AppendsFront a c (xs ++ ys)
  noted_then_cut a b c xs ys event h p = front_at_end a b c xs ys h.text_is p

  -- the titles before it, and the table after it
  pub noted_traced : (a b : Option (List ℕ)) (titles : List ℕ) (shape : Shape) (board : BoardState) (n : ℕ)
      (r : Result (Option Event) Failed) → titles ≡ heading shape
      → IsNoted a b (titles ++ (noted_run shape board n ++ ending_by shape board.chip.image (run_table board n)))
      record_is now r → IsNoted a b (traced_text shape board n) record_is now r
  noted_traced a b titles shape board n r same h =
      subst (λ (t : List ℕ). IsNoted a b t record_is now r)
      (ap (λ (t : List ℕ). t ++ (noted_run shape board n ++ ending_by shape board.chip.image (run_table board n))) same
      ∙ sym (traced_is shape board n)) h

-- where the text is the same, so is its prefix
pub front_same : {T E : Type 0} (r : Result T E) (a b : Option (List ℕ)) (xs ys : List ℕ) → xs ≡ ys
    → OnErr r (AppendsFront a b xs) → OnErr r (AppendsFront a b ys)
front_same r a b xs ys same h = subst (λ (zs : List ℕ). OnErr r (AppendsFront a b zs)) same h
