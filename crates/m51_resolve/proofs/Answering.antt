-- From the steps of the work to the answer.
use Rattle.m51_resolve.proofs
use proofs.Common.{◌≡◌, Bool, false, List, [], ◌∷◌, length, map, get_or, refl, sym, ◌∙◌, arith, Option, Some, None}
use proofs.Common.{length-map, slice_get-get_or, filter, option_or, All, find, option_map, map_none, ModuleParts}
use proofs.Common.{Segment, External, all_segments, joined_of, segments_of, all_externals, public_definition}
use proofs.Common.{unless_refused, all_growing, AreDefinitions, definition_in, Growing}
use Rattle.std.specs.Prelude.{IsErrAnd, Result}
use Rattle.std.proofs.lemmas.Bool.Decides.{nat_tests}
use Rattle.m51_cells.specs.Outcome.{Gives, RefusesWith}
use Rattle.m51_module.specs.declared.linked.Refusal.{Refusal}
use Rattle.m51_module.specs.declared.linked.Refusal.TheVariants.{L5}
use Rattle.m51_resolve.specs.declared.segment.JoinedSegment.{JoinedSegment}
use Rattle.m51_resolve.specs.WorkJoining.{growing_of, is_large, joined_as}
use Rattle.m51_resolve.specs.WorkRules.{rules_of_externals, rules_of_growing, rules_of_publics}
use Rattle.m51_resolve.specs.Joining.{title_of}
use Rattle.m51_resolve.specs.Rules.{AreResolved, but_memory, is_mixed, is_too_large, first_refusal}
use proofs.Tables.{definitions_are, Table}
use proofs.JoinSteps.{none_at}
use proofs.Within.{find_none}

-- a refusal is the answer; out of memory says nothing
pub refuses : (modules : List ModuleParts) (error : Refusal) (rule : Option Refusal) → rule ≡ Some error
    → RefusesWith (but_memory error) (unless_refused modules rule)
refuses modules error rule h = grind arith

-- so an error that a step passes on is the answer
pub err_gives : (result : Result (List ModuleParts) Refusal) (modules : List ModuleParts) (error : Refusal)
    (rule : Option Refusal) → IsErrAnd result (λ e. e ≡ error)
    → rule ≡ Some error → Gives (λ joined. joined) but_memory result (unless_refused modules rule)
err_gives result modules error rule is h = grind arith

-- nothing is first where each is nothing
both_none : (o rest : Option Refusal) → option_or o rest ≡ None → (o ≡ None) × (rest ≡ None)
both_none o rest h = grind arith

-- the rules one after another, and in their steps
in_steps : (a b c d e f g h : Option Refusal)
    → option_or a (option_or b (option_or c (option_or d (option_or e (option_or f (option_or g (option_or h None)))))))
    ≡ option_or (option_or a (option_or b None)) (option_or (option_or c (option_or d None))
    (option_or e (option_or (option_or f (option_or g None)) (option_or h None))))
in_steps a b c d e f g h = grind arith

-- what is found in a list that is made of another
named : {X Y A : Type 0} (p : Y → Bool) (n : Y → A) (g : X → Y) (xs : List X) → option_map n (find p (map g xs))
    ≡ option_map (λ x. n (g x)) (find (λ x. p (g x)) xs)
named p n g [] = refl
named p n g (x ∷ xs) = grind (arith, named p n g xs)

counted : {X Y : Type 0} (p : Y → Bool) (g : X → Y) (xs : List X) → length (filter p (map g xs))
    ≡ length (filter (λ x. p (g x)) xs)
counted p g [] = refl
counted p g (x ∷ xs) = grind (arith, counted p g xs)

-- The rules over joined segments while they grow are those over the joined segments.
module _ (all fs : List Segment) where
  mixed_is : option_map (λ (g : Growing). g.first.name) (find (λ g. g.mixed) (map (growing_of all) fs))
      ≡ option_map (λ (s : Segment). s.name) (find (is_mixed all) fs)
  mixed_is = named (λ (g : Growing). g.mixed) (λ (g : Growing). g.first.name) (growing_of all) fs

  large_is : option_map (λ (g : Growing). title_of g.first) (find is_large (map (growing_of all) fs))
      ≡ option_map (λ (j : JoinedSegment). j.title) (find is_too_large (map (joined_of all) fs))
  large_is = named is_large (λ (g : Growing). title_of g.first) (growing_of all) fs
      ∙ sym (named is_too_large (λ (j : JoinedSegment). j.title) (joined_of all) fs)

-- the rules of the steps
rules_are : (modules : List ModuleParts) → first_refusal modules
    ≡ option_or (rules_of_publics modules)
    (option_or (rules_of_externals (public_definition modules) (all_externals modules))
    (rules_of_growing (all_growing (all_segments modules))))
rules_are modules = grind (arith, mixed_is, large_is, counted, length-map, in_steps)

pub publics_refused : (modules : List ModuleParts) (error : Refusal) → rules_of_publics modules ≡ Some error
    → first_refusal modules ≡ Some error
publics_refused modules error h = grind arith

-- what is tested passes on what is known of publics and externals
module _ (modules lent : List ModuleParts) (table : Table) (externals : List External)
    (are : AreDefinitions modules table) (lent_is : lent ≡ modules) (publics : rules_of_publics lent ≡ None)
    (externals_are : externals ≡ all_externals modules) where
  pub later_rules : (rule : Option Refusal) → rules_of_externals (definition_in table) externals ≡ rule
      → first_refusal modules ≡ option_or rule (rules_of_growing (all_growing (all_segments modules)))
  later_rules rule h = grind (arith, definitions_are, rules_are)

  pub growing_refused : (growing : List Growing) (rule : Option Refusal)
      → rules_of_externals (definition_in table) externals ≡ None → growing ≡ all_growing (all_segments modules)
      → rules_of_growing growing ≡ rule → first_refusal modules ≡ rule
  growing_refused growing rule e is h = cc (later_rules None e)

-- no rule fails
pub meets : (modules : List ModuleParts) → first_refusal modules ≡ None → AreResolved modules
meets modules none = grind (arith, both_none, nat_tests)

-- none of the joined segments is too large
pub none_large : (growing : List Growing) → rules_of_growing growing ≡ None → All (λ g. is_large g ≡ false) growing
none_large growing h = λ k d below.
    let large = (both_none _ _ (both_none _ _ (both_none _ _ h).1).1).0 in
    none_at is_large growing k (get_or growing k d)
    (find_none is_large growing (map_none (λ (g : Growing). title_of g.first) _ (map_none L5 _ large)))
    (slice_get-get_or growing k d below)

joined_all : (all fs : List Segment) → map joined_as (map (growing_of all) fs) ≡ map (joined_of all) fs
joined_all all [] = refl
joined_all all (f ∷ fs) = rw (joined_all all fs)

-- the joined segments whose parts are all joined are those of the modules
pub joined_is : (modules : List ModuleParts) (growing : List Growing) → growing ≡ all_growing (all_segments modules)
    → map joined_as growing ≡ segments_of modules
joined_is modules growing h = grind (arith, joined_all)
