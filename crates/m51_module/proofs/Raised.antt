-- A module stays valid when it is raised to version 2.
use Rattle.std.proofs.lemmas.Grind.{common_steps}
use Rattle.std.proofs.Common.{◌≡◌, inr, ℕ, zero, suc, ◌+◌, ◌<◌, List, [], ◌∷◌, ◌++◌, length, map, take, add-one, drop}
use Rattle.std.proofs.Common.{get_or, Some, refl, ap, arith}
use Rattle.std.specs.Prelude.{slice_set}
use Rattle.std.specs.List.{AllPairs}
use Rattle.std.proofs.lemmas.List.{get_or-map, length-map}
use Rattle.std.proofs.lemmas.List.Elements.{All-map}
use Rattle.std.proofs.lemmas.Option.{slice_get-map}
use Rattle.m51_cells.specs.declared.kind.Base.{Base}
use Rattle.m51_cells.specs.declared.kind.Base.TheVariants.{Segment as InSegment}
use Rattle.m51_cells.specs.declared.kind.Kind.{Kind}
use Rattle.m51_module.specs.declared.content.Piece.{Piece}
use Rattle.m51_module.specs.declared.parts.ModuleParts.{ModuleParts}
use Rattle.m51_module.specs.declared.segment.Segment.{Segment}
use Rattle.m51_module.specs.declared.symbol.External.{External}
use Rattle.m51_module.specs.Arguments.{marked, raised}
use Rattle.m51_module.specs.Validity.{numbered, Differ, IsSegmentValid, IsPublicBase, IsPieceValid, IsTarget, IsValid}

-- a list whose first elements are mapped in place, one more
mapped_next : {X : Type 0} (f : X → X) (old : List X) (i : ℕ) (x : X) → i < length old → x
    ≡ get_or (map f (take i old) ++ drop i old) i x
    → slice_set (map f (take i old) ++ drop i old) i (f x) ≡ map f (take (suc i) old) ++ drop (suc i) old
mapped_next f [] i x below is = absurd (omega (arith, below))
mapped_next f (y ∷ ys) zero x below is = ap (λ z. f z ∷ ys) is
mapped_next f (y ∷ ys) (suc i) x below is = cc (mapped_next f ys i x (omega (arith, below)) is)

pub mapped_more : {X : Type 0} (f : X → X) (old now : List X) (i : ℕ) (x : X) → now ≡ map f (take i old) ++ drop i old
    → i < length old → x ≡ get_or now i x
    → slice_set now i (f x) ≡ map f (take (i + 1) old) ++ drop (i + 1) old
mapped_more f old now i x is below at = rw (is, add-one) (mapped_next f old i x below (rw (← is) at))

marked_valid : (s : Segment) → IsSegmentValid s → IsSegmentValid (marked s)
marked_valid s h = grind arith

-- the segment of a number, marked
found : (segments : List Segment) (number : ℕ) (s : Segment) → numbered segments number ≡ Some s
    → numbered (map marked segments) number ≡ Some (marked s)
found segments number s e = grind (arith, slice_get-map)

base_stays : (segments : List Segment) (kind : Kind) (base : Base) → IsPublicBase segments kind base
    → IsPublicBase (map marked segments) kind base
base_stays segments kind (InSegment number) (s, is, same) = (marked s, found segments number s is, same)
base_stays segments kind base h = h

target_stays : (segments : List Segment) (externals : List External) (base : Base) → IsTarget segments externals base
    → IsTarget (map marked segments) externals base
target_stays segments externals (InSegment number) (s, is) = (marked s, found segments number s is)
target_stays segments externals base h = h

piece_stays : (segments : List Segment) (p : Piece) → IsPieceValid segments p → IsPieceValid (map marked segments) p
piece_stays segments p h = grind (arith, common_steps, found segments p.segment h.segment h.is)

-- the names stay different
names_stay : (segments : List Segment) → AllPairs (λ s t. Differ s.name t.name) segments
    → AllPairs (λ s t. Differ s.name t.name) (map marked segments)
names_stay segments h i j d less below =
    grind (arith, common_steps, length-map segments marked, marked, get_or-map marked segments j d d, h i j d less)

pub raised_valid : (m : ModuleParts) → IsValid m → IsValid (raised m)
raised_valid m h = record {
  name = h.name;
  version = inr refl;
  few_segments = grind (arith, length-map);
  few_externals = h.few_externals;
  few_fixups = h.few_fixups;
  segments = All-map IsSegmentValid marked m.segments (grind (arith, marked_valid));
  marks = λ k d below e. refl;
  segment_names = grind (arith, names_stay);
  publics = grind (arith, common_steps, base_stays m.segments);
  public_names = h.public_names;
  externals = h.externals;
  external_names = h.external_names;
  pieces = grind (arith, piece_stays);
  piece_order = h.piece_order;
  fixups = grind (arith, common_steps, target_stays m.segments m.externals);
  fixup_order = h.fixup_order;
  banks = h.banks;
  few_banks = h.few_banks;
}
