-- Of the code: what `Joined` keeps besides the chosen modules: joined segments, parts, and publics of externals.
use Rattle.std.specs.Prelude.{◌≡◌, ℕ, ◌<◌, All, List, [], ◌∷◌, ◌++◌, length, map, take, slice_index, flat_map}
use Rattle.m51_module.specs.declared.parts.ModuleParts.{ModuleParts}
use Rattle.m51_module.specs.declared.segment.Segment.{Segment}
use Rattle.m51_module.specs.Validity.{IsValid}
use Rattle.m51_resolve.specs.declared.joining.SegmentPart.{SegmentPart}
use Rattle.m51_resolve.specs.declared.publics.Definition.{Definition}
use Rattle.m51_resolve.specs.declared.segment.JoinedSegment.{JoinedSegment}
use Rattle.m51_resolve.specs.Joining.{all_segments, part_after, segments_of}
use Rattle.m51_resolve.specs.Publics.{all_externals, resolving}
use Rattle.m51_resolve.specs.Rules.{AreResolved}

-- the parts that these segments are, after those before them
abbrev pub parts_after : List Segment → List Segment → List SegmentPart
parts_after before [] = []
parts_after before (s ∷ more) = part_after before s ∷ parts_after (before ++ s ∷ []) more

-- the parts that the segments of the modules are, in module order
abbrev pub segment_parts : List ModuleParts → List SegmentPart
segment_parts modules = parts_after [] (all_segments modules)

-- the publics that resolve the externals of the modules, in module order
abbrev pub publics_of : List ModuleParts → List Definition
publics_of modules = map (resolving modules) (all_externals modules)

-- for each module, how many items the modules before it have
pub record AreStarts {A : Type 0} (items : ModuleParts → List A) (modules : List ModuleParts) (starts : List ℕ)
    : Type 0 where
  pub len : length starts ≡ length modules
  pub each : (m : ℕ) → m < length modules → slice_index starts m ≡ length (flat_map items (take m modules))

-- the modules are valid and meet each rule, and the tables are theirs
pub record AreKept (modules : List ModuleParts) (joined : List JoinedSegment) (starts : List ℕ)
    (table : List SegmentPart) (external_starts : List ℕ) (found : List Definition) : Type 0 where
  pub valid : All IsValid modules
  pub resolved : AreResolved modules
  pub segments : joined ≡ segments_of modules
  pub segment_starts : AreStarts (λ m. m.segments) modules starts
  pub parts : table ≡ segment_parts modules
  pub public_starts : AreStarts (λ m. m.externals) modules external_starts
  pub publics : found ≡ publics_of modules
