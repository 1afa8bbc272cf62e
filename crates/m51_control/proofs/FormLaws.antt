-- Controls are read where they are written.
use Rattle.std.proofs.Common.{◌≡◌, ℕ, Bool, true, false, not, ◌||◌, List, [], ◌∷◌, ◌++◌, codes, Some}
use Rattle.std.proofs.Common.{None, refl, sym, ap, ◌∙◌, subst, arith}
use Rattle.std.specs.List.{list_all, list_any}
use Rattle.std.specs.Str.{bytes_eq}
use Rattle.std.proofs.lemmas.Slice.Eq.{bytes_eq-Decides}
use Rattle.std.proofs.lemmas.List.Folds.{list_any-append}
use Rattle.std.proofs.lemmas.Bool.{eq-eqb, and_parts, not-true, or_right}
use Rattle.std.proofs.lemmas.Bool.Decides.{nat_tests}
use Rattle.std.proofs.lemmas.Option.{same_Some}
use Rattle.m51_cells.proofs.Passing.{goes_on, pass_append, weaker}
use Rattle.m51_cells.proofs.Small.{either}
use Rattle.m51_control.specs.declared.control.Control.{Control}
use Rattle.m51_control.specs.declared.control.Control.TheVariants.{Add, Cut, NoOverlay, Order}
use Rattle.m51_control.specs.declared.control.Class.{Class}
use Rattle.m51_control.specs.declared.naming.Role.TheVariants as role
use Rattle.m51_control.specs.Parts.{open_parenthesis, close_parenthesis, comma, hyphen, greater, tilde, is_sign, cut_at}
use Rattle.m51_control.specs.Parts.{word_in}
use Rattle.m51_control.specs.Naming.{trimmed_name, names_in}
use Rattle.m51_control.specs.Reserve.{reserve}
use Rattle.m51_control.specs.Grammar.{add, cut, overlay, no_overlay, class_named, ordered_of, order, by_word}
use Rattle.m51_control.specs.Written.{WritesName, WritesNames, WritesWord, Says, Adds, Cuts, Keeps, Reserves, Orders}
use Rattle.m51_control.proofs.CutLaws.{cut_sound, cut_complete}
use Rattle.m51_control.proofs.PartLaws.{is_field_byte, field_lacks}
use Rattle.m51_control.proofs.NameLaws.{name_sound, name_complete, name_field, names_sound, names_complete, names_bytes}
use Rattle.m51_control.proofs.NameLaws.{is_list_byte, word_sound, word_complete, word_field}
use Rattle.m51_control.proofs.ReserveLaws.{number_complete, number_field, range_test, reserve_sound}

add_says : (word inside : List ℕ) (control : Control) → word ≡ codes "OVERLAY" → add inside ≡ Some control
    → Says word inside control
add_says word inside control is h =
    let cut = goes_on _ (cut_at greater inside) control h in
    let from = goes_on _ (trimmed_name role.Unit cut.value.0) control cut.goes in
    let to = goes_on _ (names_in role.Unit cut.value.1) control from.goes in
    Adds is (name_sound role.Unit cut.value.0 from.value from.found)
    (names_sound role.Unit cut.value.1 to.value to.found)
    (cut_sound greater inside cut.value cut.found) (sym (same_Some (Add from.value to.value) control to.goes))

cut_says : (word inside : List ℕ) (control : Control) → word ≡ codes "OVERLAY" → cut inside ≡ Some control
    → Says word inside control
cut_says word inside control is h =
    let cut = goes_on _ (cut_at tilde inside) control h in
    let from = goes_on _ (trimmed_name role.Unit cut.value.0) control cut.goes in
    let to = goes_on _ (names_in role.Unit cut.value.1) control from.goes in
    Cuts is (name_sound role.Unit cut.value.0 from.value from.found)
    (names_sound role.Unit cut.value.1 to.value to.found)
    (cut_sound tilde inside cut.value cut.found) (sym (same_Some (Cut from.value to.value) control to.goes))

overlay_says : (word inside : List ℕ) (control : Control) → word ≡ codes "OVERLAY" → overlay inside ≡ Some control
    → Says word inside control
overlay_says word inside control is h =
    either (list_any (is_sign greater) inside) (add inside) (cut inside) control h
    (λ _ found. add_says word inside control is found) (λ _ found. cut_says word inside control is found)

keep_says : (word inside : List ℕ) (control : Control) → word ≡ codes "NOOVERLAY" → no_overlay inside ≡ Some control
    → Says word inside control
keep_says word inside control is h =
    let unit = goes_on _ (trimmed_name role.Unit inside) control h in
    Keeps is (name_sound role.Unit inside unit.value unit.found)
    (sym (same_Some (NoOverlay unit.value) control unit.goes))

reserve_says : (word inside : List ℕ) (control : Control) → word ≡ codes "RESERVE" → reserve inside ≡ Some control
    → Says word inside control
reserve_says word inside control is h =
    let w = reserve_sound inside control h in
    Reserves w.blanks is w.is_word w.is_memory w.is_range.low w.is_range.high w.fits w.blank
    (w.is ∙ ap (λ l. w.text ++ open_parenthesis ∷ (l ++ close_parenthesis ∷ w.blanks)) w.is_range.is) w.says

pub record WritesOrdered (inside : List ℕ) (ordered : Class × List ℕ) : Type 0 where
  pub text : List ℕ
  pub name : List ℕ
  pub is_word : WritesWord text name
  pub is_class : class_named name ≡ Some ordered.0
  pub is : inside ≡ text ++ comma ∷ ordered.1

ordered_sound : (inside : List ℕ) (ordered : Class × List ℕ) → ordered_of inside ≡ Some ordered
    → WritesOrdered inside ordered
ordered_sound inside ordered h =
    let cut = goes_on _ (cut_at comma inside) ordered h in
    let word = goes_on _ (word_in cut.value.0) ordered cut.goes in
    let class = goes_on _ (class_named word.value) ordered word.goes in
    let whole : WritesOrdered inside (class.value, cut.value.1) = record {
      text = cut.value.0;
      name = word.value;
      is_word = word_sound cut.value.0 word.value word.found;
      is_class = class.found;
      is = cut_sound comma inside cut.value cut.found;
    } in
    subst (λ (o : Class × List ℕ). WritesOrdered inside o)
    (same_Some (class.value, cut.value.1) ordered class.goes) whole

order_says : (word inside : List ℕ) (control : Control) → word ≡ codes "ORDER" → order inside ≡ Some control
    → Says word inside control
order_says word inside control is h =
    let ordered = goes_on _ (ordered_of inside) control h in
    let segments = goes_on _ (names_in role.Segment ordered.value.1) control ordered.goes in
    let w = ordered_sound inside ordered.value ordered.found in
    Orders is w.is_word w.is_class (names_sound role.Segment ordered.value.1 segments.value segments.found) w.is
    (sym (same_Some (Order ordered.value.0 segments.value) control segments.goes))

pub says_sound : (word inside : List ℕ) (control : Control) → by_word word inside ≡ Some control
    → Says word inside control
unfolding by_word
says_sound word inside control h =
    either (bytes_eq word (codes "OVERLAY")) (overlay inside) _ control h
    (λ is found. overlay_says word inside control ((bytes_eq-Decides word (codes "OVERLAY")).0 is) found)
    λ _ h2. either (bytes_eq word (codes "NOOVERLAY")) (no_overlay inside) _ control h2
    (λ is found. keep_says word inside control ((bytes_eq-Decides word (codes "NOOVERLAY")).0 is) found)
    λ _ h3. either (bytes_eq word (codes "RESERVE")) (reserve inside) _ control h3
    (λ is found. reserve_says word inside control ((bytes_eq-Decides word (codes "RESERVE")).0 is) found)
    λ _ h4. either (bytes_eq word (codes "ORDER")) (order inside) None control h4
    (λ is found. order_says word inside control ((bytes_eq-Decides word (codes "ORDER")).0 is) found)
    λ _ h5. absurd (cc)

none_any : (p : ℕ → Bool) (xs : List ℕ) → list_all (λ b. not (p b)) xs ≡ true → list_any p xs ≡ false
none_any p [] h = refl
none_any p (x ∷ xs) h =
    let parts : (not (p x) ≡ true) × (list_all (λ b. not (p b)) xs ≡ true) =
    and_parts (not (p x)) (list_all (λ b. not (p b)) xs) h in
    rw (not-true (p x) parts.0) (none_any p xs parts.1)

has_sign : (sign : ℕ) (a b : List ℕ) → list_any (is_sign sign) (a ++ sign ∷ b) ≡ true
has_sign sign a b =
    list_any-append (is_sign sign) a (sign ∷ b)
    ∙ or_right (list_any (is_sign sign) a) (list_any (is_sign sign) (sign ∷ b))
    (ap (λ t. t || list_any (is_sign sign) b) (eq-eqb sign sign refl))

not_greater : (b : ℕ) → is_list_byte b ≡ true → not (is_sign greater b) ≡ true
not_greater b h = grind (arith, nat_tests, h)

field_not_greater : (b : ℕ) → is_field_byte b ≡ true → not (is_sign greater b) ≡ true
field_not_greater b h = grind (arith, nat_tests, h)

no_greater : (left right from : List ℕ) (to : List (List ℕ)) → WritesName role.Unit left from
    → WritesNames role.Unit right to → list_any (is_sign greater) (left ++ tilde ∷ right) ≡ false
no_greater left right from to u us =
    none_any (is_sign greater) (left ++ tilde ∷ right)
    (pass_append (λ b. not (is_sign greater b)) left (tilde ∷ right)
    (weaker is_field_byte (λ b. not (is_sign greater b)) field_not_greater left (name_field role.Unit left from u))
    (weaker is_list_byte (λ b. not (is_sign greater b)) not_greater right (names_bytes role.Unit right to us)))

pub says_complete : (word inside : List ℕ) (control : Control) → Says word inside control → by_word word inside
    ≡ Some control
unfolding by_word
says_complete word inside control (Adds {left = left} {right = right} {from = from} {to = to} is u us joined says) =
    rw (
      says,
      joined,
      is,
      has_sign greater left right,
      cut_complete greater left right (field_lacks greater refl left (name_field role.Unit left from u)),
      name_complete role.Unit left from u,
      names_complete role.Unit right to us,
    ) refl
says_complete word inside control (Cuts {left = left} {right = right} {from = from} {to = to} is u us joined says) =
    rw (
      says,
      joined,
      is,
      no_greater left right from to u us,
      cut_complete tilde left right (field_lacks tilde refl left (name_field role.Unit left from u)),
      name_complete role.Unit left from u,
      names_complete role.Unit right to us,
    ) refl
says_complete word inside control (Keeps {unit = unit} is u says) =
    rw (says, is, name_complete role.Unit inside unit u) refl
says_complete word inside control
    (Reserves {text = text} {memory = memory} {lo = lo} {hi = hi} {space = space} {low = low} {high = high} blanks is w
    named lo_is hi_is fits blank joined says) =
    let range = lo ++ hyphen ∷ hi in
    rw (
      says,
      joined,
      is,
      cut_complete open_parenthesis text (range ++ close_parenthesis ∷ blanks)
          (field_lacks open_parenthesis refl text (word_field text memory w)),
      word_complete text memory w,
      named,
      cut_complete close_parenthesis range blanks
          (pass_append (λ c. not (is_sign close_parenthesis c)) lo (hyphen ∷ hi)
          (field_lacks close_parenthesis refl lo (number_field lo low lo_is))
          (field_lacks close_parenthesis refl hi (number_field hi high hi_is))),
      blank,
      cut_complete hyphen lo hi (field_lacks hyphen refl lo (number_field lo low lo_is)),
      number_complete lo low lo_is,
      number_complete hi high hi_is,
      range_test space low high fits,
    ) refl
says_complete word inside control
    (Orders {text = text} {name = name} {list = list} {class = class} {segments = segments} is w named us joined says) =
    rw (
      says,
      joined,
      is,
      cut_complete comma text list (field_lacks comma refl text (word_field text name w)),
      word_complete text name w,
      named,
      names_complete role.Segment list segments us,
    ) refl
