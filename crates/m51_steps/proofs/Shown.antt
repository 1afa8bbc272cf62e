-- What was shown of internal RAM before a note, and what is shown after it.
use Rattle.std.proofs.Common.{◌≡◌, ℕ, ◌+◌, ◌<◌, ◌≤◌, inl, inr, Bool, true, false, List, [], length, refl, ◌∙◌, arith}
use Rattle.std.specs.Prelude.{◌&&◌, codes, if◌then◌else◌, nat_le, slice_index, slice_set}
use Rattle.std.proofs.lemmas.Bool.{cases_lt, le-leb, lt-leb}
use Rattle.std.proofs.lemmas.Bool.Decides.{nat_tests}
use Rattle.std.proofs.lemmas.List.{get_or-set_other, get_or-set_same}
use Rattle.m51_module.specs.declared.parts.LayoutParts.{LayoutParts}
use Rattle.m51_monitor.specs.Monitored.{Monitored, MonitorStandsFor, live_in}
use Rattle.m51_monitor.specs.Resolved.{resolved_cells}
use Rattle.m51_monitor.specs.Shared.{Shared, shared_cells}
use Rattle.m51_monitor.specs.Stores.{Stores}
use Rattle.m51_sim.specs.Boards.{held_memory, stores_read}
use Rattle.m51_sim.specs.Runs.{State}
use Rattle.m51_sim.specs.SeparateMachine.{Separate, cells_of}
use Rattle.m51_steps.specs.declared.shape.Shape.{Shape}
use Rattle.m51_steps.specs.declared.shape.Shape.TheVariants.{Lines, Ram, Counts}
use Rattle.m51_steps.specs.declared.shape.Window.{Window}
use Rattle.m51_steps.specs.Lines.{tab}
use Rattle.m51_steps.specs.Ram.{byte_code, bytes_text, change_text, changes_text, nothing_shown, ram_line}
use Rattle.m51_steps.specs.Shapes.{IsShown, in_window, note_by, note_of, shown_from}
use Rattle.m51_steps.proofs.Listed.{listed_same}

-- what the memory of a monitor answers, as the cells of its separate memory
pub cells_now : (m at : Monitored) (store : Shared) → m ≡ at
    → ((s : Stores) → MonitorStandsFor m s
    → shared_cells store ≡ resolved_cells m.layout (live_in m.layout m.records) s)
    → MonitorStandsFor at (stores_read at) → shared_cells store ≡ cells_of at.layout (held_memory at)
cells_now m at store same answers stands = (rw same at answers) (stores_read at) stands

-- what is shown of each byte, where one is added
pub codes_more : (xs : List ℕ) (f : ℕ → ℕ) (i v : ℕ) → i < length xs → v ≡ f i
    → ((a : ℕ) → a < i → slice_index xs a ≡ f a) → (a : ℕ) → a < i + 1 → slice_index (slice_set xs i v) a ≡ f a
codes_more xs f i v inside is below a h = elim (cases_lt a i) [
  | inl before ↦ get_or-set_other xs i a v 0 (λ e. omega (arith, before, e)) ∙ below a before
  | inr last ↦ let same : a ≡ i = omega (arith, h, last) in rw same (get_or-set_same xs i v 0 inside ∙ is)
]

-- what is shown is what the note of the state takes for shown, up to the last line
abbrev pub WasShown : Shape → LayoutParts → ℕ → State Separate → (ℕ → ℕ) → Type 0
WasShown (Lines w) l done before shown = Unit {0}
WasShown (Ram w) l done before shown =
    done ≤ w.last + 1 → (a : ℕ) → a < 256 → shown a ≡ shown_from w.first l done before a
WasShown Counts l done before shown = Unit {0}

pub nothing_was_shown : (shape : Shape) (l : LayoutParts) (first : State Separate) (shown : ℕ → ℕ)
    → ((a : ℕ) → a < 256 → shown a ≡ nothing_shown) → WasShown shape l 0 first shown
nothing_was_shown (Lines w) l first shown h = tt
nothing_was_shown (Ram w) l first shown h = λ below a small. rw (le-leb 0 w.first (omega arith)) (h a small)
nothing_was_shown Counts l first shown h = tt

-- the same changes by what was shown and what is shown now, byte by byte
pub changes_same : (f g now then_now : ℕ → ℕ) → ((a : ℕ) → a < 256 → f a ≡ g a)
    → ((a : ℕ) → a < 256 → now a ≡ then_now a) → changes_text f now ≡ changes_text g then_now
changes_same f g now then_now same same_now =
    listed_same (change_text f now) (change_text g then_now) tab (codes " ") 256 0
    (λ a below. rw (same a (omega (arith, below)), same_now a (omega (arith, below))) refl)

ram_line_same : (l : LayoutParts) (image : List ℕ) (steps : ℕ) (f g : ℕ → ℕ) (s : State Separate)
    → ((a : ℕ) → a < 256 → f a ≡ g a) → ram_line l image steps f s ≡ ram_line l image steps g s
unfolding ram_line bytes_text
ram_line_same l image steps f g s same = rw (changes_same f g (byte_code (cells_of l s.memory))
    (byte_code (cells_of l s.memory)) same (λ a small. refl)) refl

-- a state of the window is neither before it nor after its end
within : (first last steps : ℕ) → (nat_le first steps && nat_le steps last) ≡ true → (first ≤ steps) × (steps ≤ last)
within first last steps h = grind (arith, nat_tests)

-- and one that comes no later is before it
early : (first last steps : ℕ) → (nat_le first steps && nat_le steps last) ≡ false → steps ≤ last → steps < first
early first last steps h k = grind (arith, nat_tests)

over_window : (w : Window) (l : LayoutParts) (image : List ℕ) (steps : ℕ) (f g : ℕ → ℕ) (s : State Separate) (b : Bool)
    → in_window w steps ≡ b → (steps ≤ w.last + 1 → (a : ℕ) → a < 256 → f a ≡ g a)
    → (if b then ram_line l image steps f s else []) ≡ (if b then ram_line l image steps g s else [])
over_window w l image steps f g s true e same =
    ram_line_same l image steps f g s (same (omega (arith, within w.first w.last steps e)))
over_window w l image steps f g s false e same = refl

-- the note by what is shown is the note by the state before
pub note_is : (shape : Shape) (l : LayoutParts) (image : List ℕ) (steps : ℕ) (before s : State Separate) (shown : ℕ → ℕ)
    → WasShown shape l steps before shown
    → note_by shape l image shown steps s ≡ note_of shape l image steps before s
note_is (Lines w) l image steps before s shown h = refl
note_is (Ram w) l image steps before s shown h =
    over_window w l image steps shown (shown_from w.first l steps before) s (in_window w steps) refl h
note_is Counts l image steps before s shown h = refl

shown_next : (w : Window) (l : LayoutParts) (done : ℕ) (before s : State Separate) (old new : ℕ → ℕ) (a : ℕ) (b : Bool)
    → in_window w done ≡ b → done ≤ w.last → old a ≡ shown_from w.first l done before a
    → new a ≡ (if b then byte_code (cells_of l s.memory) a else old a) → new a ≡ shown_from w.first l (done + 1) s a
shown_next w l done before s old new a true e last h is =
    rw (lt-leb (done + 1) w.first (omega (arith, within w.first w.last done e))) is
shown_next w l done before s old new a false e last h is =
    let before_it = early w.first w.last done e last in
    rw (le-leb (done + 1) w.first (omega (arith, before_it)))
    (is ∙ rw (le-leb done w.first (omega (arith, before_it))) at h)

pub was_shown : (shape : Shape) (l : LayoutParts) (done : ℕ) (before s : State Separate) (old new : ℕ → ℕ)
    → WasShown shape l done before old → IsShown shape l done s old new → WasShown shape l (done + 1) s new
was_shown (Lines w) l done before s old new h is = tt
was_shown (Ram w) l done before s old new h is = λ below a small.
    shown_next w l done before s old new a (in_window w done) refl (omega (arith, below))
    (h (omega (arith, below)) a small) (is a small)
was_shown Counts l done before s old new h is = tt
