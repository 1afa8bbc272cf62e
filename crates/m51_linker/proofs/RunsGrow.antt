-- Runs, when one more byte after them is filled.
use Rattle.std.proofs.Common.{◌≡◌, ◌≢◌, ◌⊎◌, inl, inr, ℕ, ◌+◌, ◌<◌, ◌≤◌, pred, Bool, true, false, List, [], ◌∷◌, ◌++◌}
use Rattle.std.proofs.Common.{length, get_or, Option, None, sym, ap, subst, ◌∙◌, arith}
use Rattle.std.specs.Prelude.{is_some, slice_index_or}
use Rattle.std.specs.List.{All, Contains}
use Rattle.std.proofs.lemmas.Bool.{cases_lt}
use Rattle.std.proofs.lemmas.List.Elements.{All-contains, All-push, Contains-append_left, Contains-push}
use Rattle.std.proofs.lemmas.List.Elements.{Contains-push_cases}
use Rattle.std.proofs.lemmas.List.Quantifiers.{all_pairs_push}
use Rattle.m51_module.specs.declared.linked.Run.{Run}
use Rattle.m51_cells.proofs.Small.{below_or_last}
use Rattle.m51_linker.specs.Growing.{AddsByte, AddsIf, longer, run_at}
use Rattle.m51_linker.specs.Growing.AddsByte.{Joined, Apart, First}
use Rattle.m51_linker.specs.Memory.{IsHeldBelow}
use Rattle.m51_linker.specs.Runs.{AreRuns, IsInRun, IsWholeRun}
use Rattle.m51_linker.proofs.Lists.{all_front, all_last, pairs_front, pairs_last}

-- each run ends before the next begins
abbrev pub EndsBefore : Run → Run → Type 0
EndsBefore one two = one.first + one.len < two.first

-- old addresses were filled, all below the new one; now this one is filled too
pub record Grows (Old New : ℕ → Type 0) (at : ℕ) : Type 0 where
  pub below : (address : ℕ) → Old address → address < at
  pub old : (address : ℕ) → Old address → New address
  pub new : New at
  pub either : (address : ℕ) → New address → (Old address) ⊎ (address ≡ at)

-- a run of addresses below an end does not pass it
pub ends_below : (Old : ℕ → Type 0) (at : ℕ) → ((address : ℕ) → Old address → address < at) → (r : Run)
    → IsWholeRun Old r → r.first + r.len ≤ at
ends_below Old at below r h =
    let last = r.first + pred r.len in
    let some : 0 < r.len = h.some in
    let inside : last < at = below last (h.filled last (record { from = omega arith; below = omega arith })) in
    omega arith

module _ (Old New : ℕ → Type 0) (at : ℕ) (g : Grows Old New at) where
  run_end : (r : Run) → IsWholeRun Old r → r.first + r.len ≤ at
  run_end = ends_below Old at g.below

  -- a run that does not end there is one still
  kept : (r : Run) → IsWholeRun Old r → r.first + r.len ≢ at → IsWholeRun New r
  kept r h other = let ends : r.first + r.len ≤ at = run_end r h in let some : 0 < r.len = h.some in record {
    some = h.some;
    filled = λ address inside. g.old address (h.filled address inside);
    before = λ address e filled. elim (g.either address filled) [
      | inl old ↦ h.before address e old
      | inr new ↦ absurd (omega (arith, new, e, ends, some))
    ];
    after = λ filled. elim (g.either (r.first + r.len) filled)
        [ inl old ↦ h.after old | inr new ↦ other new ];
  }

  -- the new address is a run, where no run ends at it
  no_end : (runs : List Run) → AreRuns Old runs → All (λ r. r.first + r.len ≢ at) runs → (address : ℕ)
      → address + 1 ≡ at → Old address → ⊥
  no_end runs h others address e old =
      let k = h.all address old in
      let whole : IsWholeRun Old k.0 = All-contains (IsWholeRun Old) runs k.0 h.whole k.1 in
      let ends : k.0.first + k.0.len ≤ at = run_end k.0 whole in
      let inside : address < k.0.first + k.0.len = k.2.below in
      All-contains (λ (r : Run). r.first + r.len ≢ at) runs k.0 others k.1 (omega arith)

  new_run : (runs : List Run) → AreRuns Old runs → All (λ r. r.first + r.len ≢ at) runs → IsWholeRun New (run_at at)
  new_run runs h others = record {
    some = omega arith;
    filled = λ address inside.
        let from : at ≤ address = inside.from in
        let below : address < at + 1 = inside.below in
        let same : at ≡ address = omega arith in
        subst (λ a. New a) same g.new;
    before = λ address e filled. elim (g.either address filled) [
      | inl old ↦ no_end runs h others address e old
      | inr new ↦ absurd (omega (arith, new, e))
    ];
    after = λ filled. elim (g.either (at + 1) filled) [
      | inl old ↦ absurd (omega (arith, g.below (at + 1) old))
      | inr new ↦ absurd (omega (arith, new))
    ];
  }

  -- it is added as a run of its own
  pub added_apart : (runs : List Run) → AreRuns Old runs → All (λ r. r.first + r.len ≢ at) runs
      → AreRuns New (runs ++ run_at at ∷ [])
  added_apart runs h others = record {
    whole = All-push (IsWholeRun New) runs (run_at at)
        (λ k d below. kept (get_or runs k d) (h.whole k d below) (others k d below)) (new_run runs h others);
    all = λ address filled. elim (g.either address filled) as
        (λ _. (run : Run) × Contains (runs ++ run_at at ∷ []) run × IsInRun run address) [
          | inl old ↦ (let k = h.all address old in (k.0, Contains-append_left runs (run_at at ∷ []) k.0 k.1, k.2))
          | inr new ↦ (
            run_at at,
            Contains-push runs (run_at at),
            record { from = omega (arith, new); below = omega (arith, new) },
          )
        ];
    ascending = all_pairs_push EndsBefore runs (run_at at) h.ascending
        (λ k d below. let ends : (get_or runs k d).first + (get_or runs k d).len ≤ at =
        run_end (get_or runs k d) (h.whole k d below) in
        let other : (get_or runs k d).first + (get_or runs k d).len ≢ at = others k d below in omega arith);
  }

  -- the last run ends at it, and becomes longer
  longer_run : (run : Run) → IsWholeRun Old run → run.first + run.len ≡ at → IsWholeRun New (longer run)
  longer_run run h ends = let some : 0 < run.len = h.some in record {
    some = omega arith;
    filled = λ address inside. elim (cases_lt address at) [
      | inl below ↦ g.old address (h.filled address (record { from = inside.from; below = omega arith }))
      | inr from ↦ (
          let b : address < run.first + (run.len + 1) = inside.below in
          let same : at ≡ address = omega arith in
          subst (λ a. New a) same g.new)
    ];
    before = λ address e filled. elim (g.either address filled) [
      | inl old ↦ h.before address e old
      | inr new ↦ absurd (omega (arith, new, e, ends, some))
    ];
    after = λ filled. elim (g.either (run.first + (run.len + 1)) filled) [
      | inl old ↦ absurd (omega (arith, g.below (run.first + (run.len + 1)) old, ends))
      | inr new ↦ absurd (omega (arith, new, ends))
    ];
  }

  in_longer : (front : List Run) (run r : Run) (address : ℕ) → Contains (front ++ run ∷ []) r → IsInRun r address
      → (k : Run) × Contains (front ++ longer run ∷ []) k × IsInRun k address
  in_longer front run r address is inside =
      elim (Contains-push_cases front run r is) as
      (λ _. (k : Run) × Contains (front ++ longer run ∷ []) k × IsInRun k address) [
        | inl before ↦ (r, Contains-append_left front (longer run ∷ []) r before, inside)
        | inr last ↦ (
            let here : IsInRun run address = subst (λ k. IsInRun k address) (sym last) inside in (
              longer run,
              Contains-push front (longer run),
              record { from = here.from; below = let b : address < run.first + run.len = here.below in omega arith },
            ))
      ]

  pub added_joined : (front : List Run) (run : Run) → AreRuns Old (front ++ run ∷ []) → run.first + run.len ≡ at
      → AreRuns New (front ++ longer run ∷ [])
  added_joined front run h ends =
      let last : IsWholeRun Old run = all_last (IsWholeRun Old) front run h.whole in
      let whole : All (IsWholeRun Old) front = all_front (IsWholeRun Old) front run h.whole in
      let apart : All (λ r. EndsBefore r run) front = pairs_last EndsBefore front run h.ascending in
      let some : 0 < run.len = last.some in
      record {
        whole = All-push (IsWholeRun New) front (longer run)
            (λ k d below. let before : (get_or front k d).first + (get_or front k d).len < run.first =
            apart k d below in kept (get_or front k d) (whole k d below) (λ e. absurd (omega arith)))
            (longer_run run last ends);
        all = λ address filled. elim (g.either address filled) as
            (λ _. (k : Run) × Contains (front ++ longer run ∷ []) k × IsInRun k address) [
              | inl old ↦ (let k = h.all address old in in_longer front run k.0 address k.1 k.2)
              | inr new ↦ (
                longer run,
                Contains-push front (longer run),
                record { from = omega (arith, new, ends); below = omega (arith, new, ends) },
              )
            ];
        ascending = all_pairs_push EndsBefore front (longer run) (pairs_front EndsBefore front run h.ascending)
            (λ k d below. apart k d below);
      }

  -- where the last run does not end there, none does
  no_others : (front : List Run) (run : Run) → AreRuns Old (front ++ run ∷ []) → run.first + run.len ≢ at
      → All (λ r. r.first + r.len ≢ at) (front ++ run ∷ [])
  no_others front run h other =
      let last : IsWholeRun Old run = all_last (IsWholeRun Old) front run h.whole in
      let some : 0 < run.len = last.some in
      let ends : run.first + run.len ≤ at = run_end run last in
      let apart : All (λ r. EndsBefore r run) front = pairs_last EndsBefore front run h.ascending in
      All-push (λ (r : Run). r.first + r.len ≢ at) front run
      (λ k d below. let before : (get_or front k d).first + (get_or front k d).len < run.first = apart k d below in
      λ e. absurd (omega arith)) other

  pub added : (old new : List Run) → AreRuns Old old → AddsByte at old new → AreRuns New new
  added old new h (Joined front run is ends to) =
      rw to (added_joined front run (subst (λ runs. AreRuns Old runs) is h) ends)
  added old new h (Apart front run is other to) =
      rw to (added_apart old h
      (subst (λ runs. All (λ r. r.first + r.len ≢ at) runs) (sym is)
      (no_others front run (subst (λ runs. AreRuns Old runs) is h) other)))
  added old new h (First is to) =
      rw (to) (subst (λ runs. AreRuns New (runs ++ run_at at ∷ [])) is
      (added_apart old h (subst (λ runs. All (λ r. r.first + r.len ≢ at) runs) (sym is)
      (λ k d below. absurd (omega (arith, below))))))

-- runs of the same addresses
pub same_runs : (P Q : ℕ → Type 0) (runs : List Run) → ((address : ℕ) → P address → Q address)
    → ((address : ℕ) → Q address → P address) → AreRuns P runs → AreRuns Q runs
same_runs P Q runs to from h = record {
  whole = λ k d below. let w = h.whole k d below in record {
    some = w.some;
    filled = λ address inside. to address (w.filled address inside);
    before = λ address e filled. w.before address e (from address filled);
    after = λ filled. w.after (from _ filled);
  };
  all = λ address filled. h.all address (from address filled);
  ascending = h.ascending;
}

-- the bytes that a memory has, one address after another
module _ (content : List (Option ℕ)) (at : ℕ) where
  abbrev Old : ℕ → Type 0
  Old = IsHeldBelow content at

  abbrev New : ℕ → Type 0
  New = IsHeldBelow content (at + 1)

  is_below : (address : ℕ) → Old address → address < at
  is_below address h = h.below

  to_new : (address : ℕ) → Old address → New address
  to_new address h = record { below = omega (arith, h.below); held = h.held }

  held_grows : is_some (slice_index_or content at None) ≡ true → Grows Old New at
  held_grows held = record {
    below = is_below;
    old = to_new;
    new = record { below = omega arith; held = held };
    either = λ address h. elim (below_or_last address at h.below) [
      | inl less ↦ inl (record { below = less; held = h.held })
      | inr last ↦ inr last
    ];
  }

  from_new : is_some (slice_index_or content at None) ≡ false → (address : ℕ) → New address → Old address
  from_new none address h = elim (below_or_last address at h.below) [
    | inl less ↦ record { below = less; held = h.held }
    | inr last ↦ absurd (false_true
        (sym none ∙ ap (λ (a : ℕ). is_some (slice_index_or content a None)) (sym last) ∙ h.held))
  ] where
    false_true : false ≡ true → ⊥
    false_true e = cc

  pub runs_before : (runs : List Run) → AreRuns Old runs → (k : ℕ) (d : Run) → k < length runs
      → (get_or runs k d).first + (get_or runs k d).len ≤ at
  runs_before runs h k d less = ends_below Old at is_below (get_or runs k d) (h.whole k d less)

  runs_by : (held : Bool) (old new : List Run) → AreRuns Old old → is_some (slice_index_or content at None) ≡ held
      → AddsIf held at old new → AreRuns New new
  runs_by true old new h held adds = added Old New at (held_grows held) old new h adds
  runs_by false old new h none same =
      subst (λ runs. AreRuns New runs) (sym same) (same_runs Old New old to_new (from_new none) h)

  pub runs_more : (held : Bool) (old new : List Run) → AreRuns Old old → held ≡ is_some (slice_index_or content at None)
      → AddsIf held at old new → AreRuns New new
  runs_more held old new h is adds = runs_by held old new h (sym is) adds
