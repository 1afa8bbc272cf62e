-- Lists of steps, one for each board: the lines by the cycle in which their step starts, when one step is taken first.
use Rattle.m51_party.proofs.Common.{◌≡◌, ℕ, zero, suc, ◌≤◌, ◌<◌, inl, inr, List, [], ◌∷◌, ◌++◌, refl, arith}
use Rattle.m51_party.proofs.Common.{append_assoc, ◌==◌, if◌then◌else◌, flat_map, ne_eqb, Every, every_weaker}
use Rattle.std.proofs.Common.{◌≢◌}
use Rattle.std.proofs.lemmas.Bool.{cases_lt, eq-eqb}

module _ {S : Type 0} (start : S → ℕ) (text : ℕ → S → List ℕ) where
  abbrev pub line : ℕ → ℕ → S → List ℕ
  line cycle index s = if start s == cycle then text index s else []

  -- the lines of the steps that start in a cycle, where the first list is that of the board at this index
  abbrev pub at_cycle : ℕ → ℕ → List (List S) → List ℕ
  at_cycle cycle index [] = []
  at_cycle cycle index (steps ∷ rest) = flat_map (line cycle index) steps ++ at_cycle cycle (suc index) rest

  -- those of all cycles before one
  abbrev pub before : ℕ → List (List S) → List ℕ
  before zero all = []
  before (suc cycle) all = before cycle all ++ at_cycle cycle 0 all

  -- none starts earlier
  abbrev pub From : ℕ → List S → Type 0
  From least steps = Every (λ s. least ≤ start s) steps

  abbrev pub AllFrom : ℕ → List (List S) → Type 0
  AllFrom least all = Every (From least) all

  no_line : (cycle index least : ℕ) (steps : List S) → cycle < least → From least steps
      → flat_map (line cycle index) steps ≡ []
  no_line cycle index least [] below h = refl
  no_line cycle index least (s ∷ ss) below h =
      cc (ne_eqb (start s) cycle (λ e. omega (arith, e, h.0, below)), no_line cycle index least ss below h.1)

  no_lines : (cycle index least : ℕ) (all : List (List S)) → cycle < least → AllFrom least all
      → at_cycle cycle index all ≡ []
  no_lines cycle index least [] below h = refl
  no_lines cycle index least (steps ∷ rest) below h =
      cc (no_line cycle index least steps below h.0, no_lines cycle (suc index) least rest below h.1)

  none_before : (cycle least : ℕ) (all : List (List S)) → cycle ≤ least → AllFrom least all → before cycle all ≡ []
  none_before zero least all below h = refl
  none_before (suc cycle) least all below h =
      cc (none_before cycle least all (omega (arith, below)) h, no_lines cycle 0 least all (omega (arith, below)) h)

  -- One list, that of the board of this number, begins with a step that starts in this cycle, which is taken off. In
  -- its cycle its lines come first, and in other cycles the lines stay; no list has a step that starts earlier.
  pub record Takes (at number cycle : ℕ) (s : S) (olds news : List (List S)) : Type 0 where
    pub first : AllFrom cycle olds
    pub after : AllFrom cycle news
    pub here : at_cycle cycle at olds ≡ text number s ++ at_cycle cycle at news
    pub others : (later : ℕ) → cycle ≢ later → at_cycle later at olds ≡ at_cycle later at news

  pub takes_here : (at cycle : ℕ) (s : S) (steps : List S) (rest : List (List S)) → start s ≡ cycle → From cycle steps
      → AllFrom cycle rest → Takes at at cycle s ((s ∷ steps) ∷ rest) (steps ∷ rest)
  takes_here at cycle s steps rest e h k = record {
    first = ((omega arith, h), k);
    after = (h, k);
    here = cc (
      eq-eqb (start s) cycle e,
      append_assoc (text at s) (flat_map (line cycle at) steps) (at_cycle cycle (suc at) rest),
    );
    others = λ later ne. cc (ne_eqb (start s) later (λ i. ne (cc (e, i))));
  }

  pub takes_later : (at number cycle : ℕ) (s : S) (steps : List S) (olds news : List (List S)) → From (suc cycle) steps
      → Takes (suc at) number cycle s olds news → Takes at number cycle s (steps ∷ olds) (steps ∷ news)
  takes_later at number cycle s steps olds news h t =
      let from = every_weaker (λ s. suc cycle ≤ start s) (λ s. cycle ≤ start s) steps (λ s b. omega (arith, b)) h in
      record {
        first = (from, t.first);
        after = (from, t.after);
        here = cc (no_line cycle at (suc cycle) steps (omega arith) h, t.here);
        others = λ later ne. cc (t.others later ne);
      }

  -- the lines of the step come before all others
  pub first_taken : (number cycle limit : ℕ) (s : S) (olds news : List (List S)) → Takes 0 number cycle s olds news
      → cycle < limit → before limit olds ≡ text number s ++ before limit news
  first_taken number cycle zero s olds news t below = absurd (omega (arith, below))
  first_taken number cycle (suc limit) s olds news t below = elim (cases_lt cycle limit) [
    | inl b ↦ cc (
      first_taken number cycle limit s olds news t b,
      append_assoc (text number s) (before limit news) (at_cycle limit 0 news),
      t.others limit (λ e. omega (arith, e, b)),
    )
    | inr h ↦ let e : limit ≡ cycle = omega (arith, below, h) in
        rw e (cc (
          none_before cycle cycle olds (omega arith) t.first,
          none_before cycle cycle news (omega arith) t.after,
          t.here,
        ))
  ]

  -- there is no step
  abbrev pub AllEmpty : List (List S) → Type 0
  AllEmpty all = Every (λ steps. steps ≡ []) all

  no_more : (all : List (List S)) → AllEmpty all → (cycle at : ℕ) → at_cycle cycle at all ≡ []
  no_more [] h cycle at = refl
  no_more (steps ∷ rest) h cycle at = cc (no_more rest h.1 cycle (suc at))

  pub all_over : (all : List (List S)) → AllEmpty all → (cycle : ℕ) → before cycle all ≡ []
  all_over all h zero = refl
  all_over all h (suc cycle) = cc (all_over all h cycle, no_more all h cycle 0)
