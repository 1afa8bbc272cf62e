-- What build writes of the overlay: the figure of the map is the weight, and no sound layout has a smaller one.
use Rattle.m51_build_proof.proofs
use proofs.Common.{LayoutParts, Chain, vectors, Control, L12, ModuleParts, segments_of, GraphParts, IsGraph, Placing}
use proofs.Common.{Refusal, Linked, Script, BuildJob, build_files, link_outcome, Program, placed_of, list_any, All}
use proofs.Common.{AllZip, slice_get, length, IsRootAt, layout_graph, IsValid, AreResolved, located_of, placing_of}
use proofs.Common.{place_after, of_located, figure_is_weight, weights_agree, refusal_text, IsReport, filled_by, IsRun}
use proofs.Common.{Edges, tally_mono, unless_none}
use proofs.Known.{graph_kept, modules_known}
use proofs.Verdicts.{has_placing, lacks_placing, not_link, not_run, outcome_of_graph, of_stopped, stays_unplaced}
use proofs.Verdicts.{line_of_l12}
use proofs.Weights.{has_weight}
use Rattle.m51_graph.specs.Graphs.{graph_of}
use Rattle.m51_chain.specs.Outcome.{Outcome}
use Rattle.std.proofs.Common.{◌≡◌, ℕ, zero, suc, ◌+◌, cond, List, ◌++◌, ap, ◌∙◌, arith, inl, inr, ◌≤◌, Bool, true, []}
use Rattle.std.proofs.Common.{◌∷◌, Some, refl, subst, codes, Err, Ok, sym, append_assoc}
use Rattle.std.specs.Fmt.{decimal}
use Rattle.m51_place.specs.Bound.{overlaid_bytes, IsWeight, count_below, overlays_byte, bytes_passing, covered_bytes}
use Rattle.m51_place.specs.Bound.{covers_byte}
use Rattle.std.specs.Prelude.{flat_map}
use Rattle.m51_module.specs.Plan.{UnitLiesUnder}
use Rattle.m51_control.specs.Controls.{AreKept}
use Rattle.m51_chain.specs.Linking.{Follows, IsProgramOutcome, Unlinked}
use Rattle.m51_module.specs.declared.placed.Placed.{Placed}
use Rattle.m51_print.specs.Map.{overlaid_below, overlays, overlaid_line, image_line, line_of_chain, map_of}
use Rattle.m51_print.specs.Map.{segment_line, unit_lines}
use Rattle.m51_print.proofs.Ranges.{counted_more}
use Rattle.m51_print.proofs.Steps.{none_overlaid}
use Rattle.m51_build_proof.specs.Laws.{PrintedFigureIsWeight}
use Rattle.m51_module.specs.Chains.{ChainsFrom, data_of, weight_of}
use Rattle.m51_place.proofs.Weights.{count_is, least}
use Rattle.m51_build_proof.specs.Layouts.{HasOtherBase, HasSameSegments, CoversLeast}
use Rattle.m51_place.specs.declared.numbered.Numbered.{Numbered}
use Rattle.m51_place.specs.declared.ranked.Ranked.{Ranked}
use Rattle.m51_place.specs.Fixed.{fixed_of, shared_extents}
use Rattle.m51_place.specs.Order.{order_of}
use Rattle.m51_place.specs.Overlay.{FindsRun, LeavesRun, before_overlaid, ExceedsRun, RefusesOverlaid}
use Rattle.m51_place.proofs.Free.{both_ok, place_append}
use Rattle.m51_place.proofs.Ordered.{from_overlaid, split}
use Rattle.m51_build_proof.specs.Overlay.{IsPremise, BuildHasWeight, BuildPrintsLeast, BuildRefusesOverlay}
use Rattle.m51_build_proof.specs.Overlay.{ReachesPlacing, PrintsLeast, PrintsWeight, RefusesOverlay}
use Rattle.m51_place.proofs.Refused.{overlay_is_refused}
use Rattle.m51_sim.specs.Report.{report_of}

-- both count the same bytes
one_more : (placed : List Placed) (n : ℕ)
    → overlaid_below placed (n + 1) ≡ overlaid_below placed n + cond (list_any (overlays n) placed) 1 0
unfolding overlaid_below
one_more placed n = counted_more (λ a. list_any (overlays a) placed) n

count_same : (placed : List Placed) (n : ℕ)
    → overlaid_below placed n ≡ count_below (λ byte. list_any (overlays_byte byte) placed) n
unfolding count_below
count_same placed zero = none_overlaid placed
count_same placed (suc n) = grind (arith, one_more placed n, count_same placed n)

-- the figure of a map is that of the laws on placing
pub figure_is_same : (l : LayoutParts) → overlaid_below l.placed 256 ≡ overlaid_bytes l
figure_is_same l = count_same l.placed 256

pub printed : PrintedFigureIsWeight
printed modules controls g p low high weight valid resolved kept is graph_is_of placed data_only finds h =
    ap (λ n. codes "OVERLAID " ++ decimal n ++ codes " BYTES\n")
    (count_same p.layout.placed 256
    ∙ figure_is_weight modules controls g p low high weight valid resolved kept is graph_is_of placed data_only finds h)

-- an extent of the one list has its counterpart in the other
record HasOther (p : Placed) (ys : List Placed) (k : ℕ) : Type 0 where
  q : Placed
  there : slice_get ys k ≡ Some q
  other : HasOtherBase p q

out_at : (xs ys : List Placed) (k : ℕ) (p : Placed) → AllZip HasOtherBase xs ys → slice_get xs k ≡ Some p
    → HasOther p ys k
out_at [] [] k p h at = absurd (cc at)
out_at (x ∷ xs) (y ∷ ys) zero p h at = grind arith
out_at (x ∷ xs) (y ∷ ys) (suc k) p h at = grind (arith, out_at xs ys k p h.1 at)
out_at xs ys k p h at = absurd h

-- so has each extent of the other list
turned : (xs ys : List Placed) → AllZip HasOtherBase xs ys → AllZip HasOtherBase ys xs
turned [] [] h = tt
turned (x ∷ xs) (y ∷ ys) h = (grind arith, turned xs ys h.1)
turned xs ys h = absurd h

-- the layout with these extents
abbrev parts_with : List Placed → List ℕ → Edges → List (ℕ × ℕ) → LayoutParts
parts_with placed units edges owners = record { placed = placed; units = units; edges = edges; owners = owners }

module _ (l : LayoutParts) (placed : List Placed) (moved : AllZip HasOtherBase l.placed placed) where
  abbrev other : LayoutParts
  other = parts_with placed l.units l.edges l.owners

  -- the roots are absolute segments, which have their own bases
  root_out : (vector unit : ℕ) → IsRootAt l vector unit → IsRootAt other vector unit
  root_out vector unit h =
      let o = out_at l.placed placed h.unit_is.segment h.is moved h.unit_is.placed in
      grind arith

  lies_out : (vector unit : ℕ) → UnitLiesUnder l vector unit → UnitLiesUnder other vector unit
  lies_out vector unit h = grind (arith, root_out)

module _ (l : LayoutParts) (placed : List Placed) (moved : AllZip HasOtherBase l.placed placed) where
  abbrev moved_layout : LayoutParts
  moved_layout = other l placed moved

  root_in : (vector unit : ℕ) → IsRootAt moved_layout vector unit → IsRootAt l vector unit
  root_in vector unit h = root_out moved_layout l.placed (turned l.placed placed moved) vector unit h

  lies_in : (vector unit : ℕ) → UnitLiesUnder moved_layout vector unit → UnitLiesUnder l vector unit
  lies_in vector unit h = lies_out moved_layout l.placed (turned l.placed placed moved) vector unit h

  same_data : (unit number : ℕ) (xs ys : List Placed) → AllZip HasOtherBase xs ys
      → data_of l unit number xs ≡ data_of moved_layout unit number ys
  same_data unit number [] ys h = grind arith
  same_data unit number (x ∷ xs) ys h = grind (arith, same_data unit (number + 1) xs)

  same_passing : (free : ℕ → Bool) (number : ℕ) (xs ys : List Placed) → AllZip HasOtherBase xs ys
      → bytes_passing l free number xs ≡ bytes_passing moved_layout free number ys
  same_passing free number [] [] h = refl
  same_passing free number (x ∷ xs) (y ∷ ys) h = grind (arith, same_passing free (number + 1) xs ys h.1)
  same_passing free number xs ys h = absurd h

  chains_out : (w : ℕ → ℕ) (at : List ℕ) (chains : List Chain) → ChainsFrom (layout_graph l) w at chains
      → ChainsFrom (layout_graph moved_layout) w at chains
  chains_out w [] [] h = tt
  chains_out w [] (c ∷ chains) h = absurd h
  chains_out w (v ∷ more) [] h = (λ unit root. h.0 unit (root_in v unit root), chains_out w more [] h.1)
  chains_out w (v ∷ more) (c ∷ chains) h = elim h [
    | inl without ↦ inl (λ unit root. without.0 unit (root_in v unit root), chains_out w more (c ∷ chains) without.1)
    | inr chain ↦ grind (arith, root_out l placed moved, chains_out w more chains chain.2)
  ]

  weight_out : (weight : ℕ) → IsWeight l weight → IsWeight moved_layout weight
  weight_out weight h =
      let same : weight_of l ≡ weight_of moved_layout = grind (arith, same_data) in
      record {
        chains = h.chains;
        heaviest = chains_out (weight_of moved_layout) vectors h.chains
            (subst (λ (w : ℕ → ℕ). ChainsFrom (layout_graph l) w vectors h.chains) same h.heaviest);
        free = h.free;
        tells = λ unit. (
          λ f vector lies. (h.tells unit).0 f vector (lies_in vector unit lies),
          λ none. (h.tells unit).1 (λ vector lies. none vector (lies_out l placed moved vector unit lies)),
        );
        is = grind (arith, same_passing);
      }

-- layouts of the same segments have one weight
pub same_weight : (l other : LayoutParts) (weight : ℕ) → HasSameSegments l other → IsWeight l weight
    → IsWeight other weight
same_weight l other weight h w = grind (arith, weight_out)

covers_too : (byte : ℕ) (p : Placed) → covers_byte byte p ≡ true → overlays_byte byte p ≡ true
covers_too byte p h = grind arith

any_too : (byte : ℕ) (placed : List Placed) → list_any (covers_byte byte) placed ≡ true
    → list_any (overlays_byte byte) placed ≡ true
any_too byte [] h = h
any_too byte (p ∷ ps) h = grind (arith, covers_too byte p, any_too byte ps)

count_too : (p q : ℕ → Bool) (n : ℕ) → ((k : ℕ) → p k ≡ true → q k ≡ true) → count_below p n ≤ count_below q n
count_too p q n h = omega (arith, count_is p n, count_is q n, tally_mono p q n h)

pub overlaid_at_least : (l : LayoutParts) → covered_bytes l ≤ overlaid_bytes l
overlaid_at_least l =
    count_too (λ byte. list_any (covers_byte byte) l.placed) (λ byte. list_any (overlays_byte byte) l.placed) 256
    (λ byte. any_too byte l.placed)

-- where all of an order are placed, its first ones are
finds_run : (g : GraphParts) (fixed : List Numbered) (order : List Ranked) (low high : ℕ) (located : List Numbered)
    → place_after g fixed order ≡ Ok located → LeavesRun g fixed order low high
    → FindsRun g fixed order low high
finds_run g fixed order low high located h leaves =
    let first = both_ok (place_after g fixed (before_overlaid order)) (λ es. place_after g es (from_overlaid order))
    located (sym (place_append g (before_overlaid order) (from_overlaid order) fixed)
    ∙ subst (λ (ts : List Ranked). place_after g fixed ts ≡ Ok located) (split order) h) in
    record { extents = first.0; placed = first.1; run = leaves first.0 first.1 }

-- what is known of modules, control lines and a graph that are accepted
pub record AreKnown (modules : List ModuleParts) (controls : List (ℕ × Control)) (g : GraphParts) : Type 0 where
  pub valid : All IsValid modules
  pub resolved : AreResolved modules
  pub kept : AreKept controls
  pub is : IsGraph g
  pub graph : graph_of modules controls ≡ Ok g

no_less : (weight covered overlaid figure : ℕ) → weight ≤ covered → covered ≤ overlaid → figure ≡ overlaid
    → weight ≤ figure
no_less weight covered overlaid figure h k same = omega arith

module _ (modules : List ModuleParts) (controls : List (ℕ × Control)) (g : GraphParts) (low high weight : ℕ)
    (known : AreKnown modules controls g)
    (premise : IsPremise modules controls g low high weight) (p : Placing)
    (placed : placing_of modules controls g ≡ Ok p) where
  weighs : IsWeight p.layout weight
  weighs = weights_agree modules controls g p weight known.valid known.resolved known.kept known.is known.graph placed
      premise.weight_is

  runs : FindsRun g (fixed_of modules controls (segments_of modules)) (order_of g controls (segments_of modules)) low
      high
  runs =
      let fixed = fixed_of modules controls (segments_of modules) in
      let order = order_of g controls (segments_of modules) in
      let of = of_located g _ (located_of modules controls g) p placed in
      let rules = unless_none (shared_extents fixed) (place_after g fixed order) of.located of.is in
      finds_run g fixed order low high of.located rules.1 premise.run

  covers : overlaid_below p.layout.placed 256 ≡ weight
  covers =
      figure_is_same p.layout
      ∙ figure_is_weight modules controls g p low high weight known.valid known.resolved known.kept known.is known.graph
      placed premise.overlaid runs weighs

  pub prints_weight : overlaid_line p.layout.placed ≡ codes "OVERLAID " ++ decimal weight ++ codes " BYTES\n"
  prints_weight = ap (λ n. codes "OVERLAID " ++ decimal n ++ codes " BYTES\n") covers

  pub covers_least : CoversLeast p.layout weight
  covers_least = record {
    covers = covers;
    least = λ other same sound.
        no_less weight (covered_bytes other) (overlaid_bytes other) (overlaid_below other.placed 256)
        (least other weight sound (same_weight p.layout other weight same weighs))
        (overlaid_at_least other) (figure_is_same other);
  }

known : (job : BuildJob) (contents : List (List ℕ)) (modules : List ModuleParts) (controls : List (ℕ × Control))
    (g : GraphParts) → ReachesPlacing job contents modules controls g → AreKnown modules controls g
known job contents modules controls g r =
    let k = modules_known (build_files job) contents r.inputs modules r.bytes r.read r.chosen in
    record {
      valid = k.valid;
      resolved = k.resolved;
      kept = subst AreKept r.lines k.kept;
      is = graph_kept modules controls g k.resolved r.graph;
      graph = r.graph;
    }

abbrev before : LayoutParts → List ℕ → List Chain → List ℕ
before l roots chains =
    codes "SEGMENTS\n" ++ flat_map segment_line l.placed ++ codes "UNITS\n" ++ unit_lines l roots (length l.units)
    ++ flat_map (line_of_chain l) chains

abbrev after_overlaid : ℕ → List ℕ → List ℕ
after_overlaid bytes rest = image_line bytes ++ (codes "RUN\n" ++ rest)

map_is : (l : LayoutParts) (roots : List ℕ) (chains : List Chain) (bytes : ℕ) (rest line : List ℕ)
    → overlaid_line l.placed ≡ line
    → (map_of l roots chains bytes ++ codes "RUN\n") ++ rest ≡ (before l roots chains ++ line)
    ++ after_overlaid bytes rest
unfolding map_of
map_is l roots chains bytes rest line h = grind (arith, append_assoc)

report_prints : (linked : Linked) (l : LayoutParts) (job : BuildJob) (script : Script) (weight : ℕ) (outcome : Outcome)
    → linked.layout ≡ l
    → overlaid_line l.placed ≡ codes "OVERLAID " ++ decimal weight ++ codes " BYTES\n"
    → IsReport linked job.hex script job.steps outcome → PrintsWeight l weight outcome.text
report_prints linked l job script weight outcome same line report =
    let rest : List ℕ = (report_of linked.layout linked.image script job.steps).text in
    let here : overlaid_line linked.layout.placed ≡ codes "OVERLAID " ++ decimal weight ++ codes " BYTES\n" =
    ap (λ (x : LayoutParts). overlaid_line x.placed) same ∙ line in
    let prints : PrintsWeight linked.layout weight outcome.text = record {
      roots = linked.roots;
      chains = report.chains;
      heaviest = report.heaviest;
      after = after_overlaid (filled_by linked.written) rest;
      is = ap (λ (o : Outcome). o.text) report.is
          ∙ map_is linked.layout linked.roots report.chains (filled_by linked.written) rest
          (codes "OVERLAID " ++ decimal weight ++ codes " BYTES\n") here;
    } in
    subst (λ (x : LayoutParts). PrintsWeight x weight outcome.text) same prints

module _ (job : BuildJob) (contents : List (List ℕ)) (outcome : Outcome) (modules : List ModuleParts)
    (controls : List (ℕ × Control)) (g : GraphParts) (low high weight : ℕ)
    (r : ReachesPlacing job contents modules controls g) (premise : IsPremise modules controls g low high weight) where
  abbrev Comes : Type 0
  Comes = IsProgramOutcome (placed_of modules controls g) (λ linked. IsReport linked job.hex r.inputs.script job.steps)
      outcome

  are : AreKnown modules controls g
  are = known job contents modules controls g r

  prints : Comes → IsRun outcome → PrintsLeast modules controls g weight outcome.text
  prints (Unlinked why is one) run = absurd (not_run why outcome one run)
  prints (Follows p linked is linked_is report) run =
      let has = has_placing modules controls g p is in
      let layout : linked.layout ≡ has.placing.layout = linked_is.layout
      ∙ sym (ap (λ (x : Program). x.placing.layout) has.is) in
      let line = prints_weight modules controls g low high weight are premise has.placing has.placed in
      record {
        placing = has.placing;
        placed = has.placed;
        prints = report_prints linked has.placing.layout job r.inputs.script weight outcome layout line report;
        least = covers_least modules controls g low high weight are premise has.placing has.placed;
      }

  abbrev Exceeds : Type 0
  Exceeds = ExceedsRun g (fixed_of modules controls (segments_of modules)) (order_of g controls (segments_of modules))
      low high weight

  decides : (RefusesOverlaid modules controls g → Exceeds) × (Exceeds → RefusesOverlaid modules controls g)
  decides = overlay_is_refused modules controls g low high weight are.valid are.kept are.is are.graph premise.overlaid
      premise.run premise.weight_is

  exceeds : Comes → RefusesOverlay modules g outcome → Exceeds
  exceeds (Unlinked why is one) refused =
      let text : refusal_text why ≡ refusal_text (L12 refused.segment.title) = sym (ap (λ (o : Outcome). o.text) one)
      ∙ refused.text in
      let stopped : placed_of modules controls g ≡ Err (L12 refused.segment.title) =
      is ∙ ap (λ (x : Refusal). Err x) (line_of_l12 why refused.segment.title text) in
      decides.0 (record {
        number = refused.number;
        unit = refused.unit;
        segment = refused.segment;
        is = refused.is;
        own = refused.overlaid;
        refused = lacks_placing modules controls g refused.segment.title stopped;
      })
  exceeds (Follows p linked is linked_is report) refused =
      absurd (not_link (report_of linked.layout linked.image r.inputs.script job.steps).event
      (sym (ap (λ (o : Outcome). o.status) report.is) ∙ refused.status))

  refuses : Comes → Exceeds → RefusesOverlay modules g outcome
  refuses comes e =
      let by = decides.1 e in
      let is : outcome ≡ link_outcome (L12 by.segment.title) = of_stopped _ _ outcome (L12 by.segment.title)
      (stays_unplaced modules controls g by.segment.title by.refused) comes in
      record {
        number = by.number;
        unit = by.unit;
        segment = by.segment;
        is = by.is;
        overlaid = by.own;
        status = ap (λ (o : Outcome). o.status) is;
        text = ap (λ (o : Outcome). o.text) is;
      }

pub build_prints_least : BuildPrintsLeast
build_prints_least job contents outcome modules controls g low high weight h run r premise =
    prints job contents outcome modules controls g low high weight r premise
    (outcome_of_graph modules controls g job contents outcome r h) run

pub build_refuses_overlay : BuildRefusesOverlay
build_refuses_overlay job contents outcome modules controls g low high weight h r premise =
    let comes = outcome_of_graph modules controls g job contents outcome r h in (
      exceeds job contents outcome modules controls g low high weight r premise comes,
      refuses job contents outcome modules controls g low high weight r premise comes,
    )

pub build_has_weight : BuildHasWeight
build_has_weight job contents modules controls g r =
    let are = known job contents modules controls g r in
    has_weight (segments_of modules) g are.is
