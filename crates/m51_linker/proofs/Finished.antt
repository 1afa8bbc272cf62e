-- A linked program: its runs and its roots.
use Rattle.std.proofs.Common.{◌≡◌, inl, inr, ℕ, ◌+◌, ◌<◌, List, [], ◌∷◌, ◌++◌, length, get_or, Option, sym, ap, subst}
use Rattle.std.proofs.Common.{◌∙◌, arith}
use Rattle.std.specs.Prelude.{is_some, slice_index}
use Rattle.std.specs.List.{All}
use Rattle.std.proofs.Math.ListN.{get_or-append}
use Rattle.std.proofs.Math.Seq.{get_or-append_seam}
use Rattle.m51_cells.proofs.Small.{below_or_last}
use Rattle.m51_module.specs.declared.linked.Run.{Run}
use Rattle.m51_module.specs.declared.parts.ModuleParts.{ModuleParts}
use Rattle.m51_graph.specs.declared.parts.GraphParts.{GraphParts}
use Rattle.m51_graph.specs.Graph.{AreRootBits}
use Rattle.m51_place.specs.declared.placing.Placing.{Placing}
use Rattle.m51_linker.specs.Image.{content_of, IsFilled}
use Rattle.m51_linker.specs.Link.{AreRoots, IsRunInMemory}
use Rattle.m51_linker.specs.Memory.{HoldsStretches, IsHeldBelow}
use Rattle.m51_linker.specs.Runs.{AreRuns}
use Rattle.m51_linker.proofs.RunsGrow.{ends_below, same_runs}

-- one more unit
pub roots_more : (g : GraphParts) (roots : List ℕ) (unit byte : ℕ) → length roots ≡ unit
    → ((u : ℕ) → u < unit → AreRootBits g u (slice_index roots u)) → AreRootBits g unit byte
    → (u : ℕ) → u < unit + 1 → AreRootBits g u (slice_index (roots ++ byte ∷ []) u)
roots_more g roots unit byte len each last u below =
    elim (below_or_last u unit below) [
      | inl less ↦ subst (λ b. AreRootBits g u b) (sym (get_or-append roots (byte ∷ []) 0 u (omega (arith, less, len))))
          (each u less)
      | inr same ↦
          let at : slice_index (roots ++ byte ∷ []) u ≡ byte =
          ap (λ n. slice_index (roots ++ byte ∷ []) n) (same ∙ sym len) ∙ get_or-append_seam roots byte [] 0 in
          subst (λ b. AreRootBits g u b) (sym at) (subst (λ n. AreRootBits g n byte) (sym same) last)
    ]

-- all units
pub roots_whole : (g : GraphParts) (count : ℕ) (roots all : List ℕ) → all ≡ roots → length roots ≡ count
    → count ≡ length g.units
    → ((u : ℕ) → u < count → AreRootBits g u (slice_index roots u)) → AreRoots g all
roots_whole g count roots all is len whole each =
    subst (λ (xs : List ℕ). AreRoots g xs) (sym is)
    (record { len = len ∙ whole; each = λ unit below. each unit (omega (arith, below, whole)) })

-- the runs of the bytes of the content
pub runs_are : (modules : List ModuleParts) (placing : Placing) (content : List (Option ℕ)) (runs : List Run)
    → HoldsStretches (content_of modules placing) content
    → AreRuns (IsHeldBelow content 65536) runs → AreRuns (IsFilled modules placing) runs
runs_are modules placing content runs bytes =
    same_runs (IsHeldBelow content 65536) (IsFilled modules placing) runs
    (λ address h. record { inside = h.below; filled = ap is_some (sym (bytes.each address)) ∙ h.held })
    (λ address h. record { below = h.inside; held = ap is_some (bytes.each address) ∙ h.filled })

pub runs_inside : (content : List (Option ℕ)) (runs : List Run) → AreRuns (IsHeldBelow content 65536) runs
    → All IsRunInMemory runs
runs_inside content runs h k d below = record {
  some = (h.whole k d below).some;
  inside = ends_below (IsHeldBelow content 65536) 65536 (λ address held. held.below) (get_or runs k d)
      (h.whole k d below);
}
