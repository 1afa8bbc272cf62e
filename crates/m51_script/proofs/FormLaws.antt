-- A line is read as a form exactly if it is written so.
use Rattle.std.proofs.Common.{◌≡◌, ℕ, ◌==◌, List, [], ◌∷◌, ◌++◌, Option, Some, None, refl, sym, ap, ◌∙◌}
use Rattle.std.proofs.Common.{arith, ◌≤◌}
use Rattle.std.specs.Prelude.{codes}
use Rattle.std.specs.Option.{option_and_then}
use Rattle.std.specs.Str.{bytes_eq}
use Rattle.std.proofs.lemmas.Slice.Eq.{bytes_eq-Decides}
use Rattle.std.proofs.lemmas.Bool.Decides.{nat_tests}
use Rattle.std.proofs.lemmas.Option.{same_Some}
use Rattle.m51_cells.proofs.Passing.{goes_on}
use Rattle.m51_cells.proofs.Small.{either}
use Rattle.m51_script.specs.declared.forms.LineForm.{LineForm}
use Rattle.m51_script.specs.declared.forms.LineForm.TheVariants.{Fill, Pin, Receive}
use Rattle.m51_script.specs.Parts.{cut}
use Rattle.m51_script.specs.Digits.{decimal, hexadecimal}
use Rattle.m51_script.specs.Grammar.{form_by_word, fill_of, line_form, letter_p, pin_of, port_of, received_as}
use Rattle.m51_script.specs.Grammar.{receive_of}
use Rattle.m51_script.specs.Written.{AreBlanks, WritesForm, WritesNumber, WritesCycle, WritesDigit, Fills, Pins}
use Rattle.m51_script.specs.Written.{Receives, ReceivesBit}
use Rattle.m51_script.specs.Laws.{ReadAsWritten}
use Rattle.std.specs.List.{prefix_len}
use Rattle.m51_cells.specs.Blanks.{is_blank}
use Rattle.m51_script.proofs.CutLaws.{IsCut, cut_complete, cut_none, cut_sound, starts, starts_alone}
use Rattle.m51_script.proofs.NumberLaws.{number_complete, number_lacks, number_sound}

fill_sound : (line text : List ℕ) (form : LineForm) → IsCut line (codes "FILL") text → fill_of text ≡ Some form
    → WritesForm line form
fill_sound line text form k h =
    let byte = goes_on _ (hexadecimal text) form h in
    Fills {one = k.blanks} {hh = text} {byte = byte.value} k.blank (number_sound 16 4 text byte.value byte.found) k.is
    (sym (same_Some (Fill byte.value) form byte.goes))

-- Pn
record IsPort (part : List ℕ) (port : ℕ) : Type 0 where
  digit : List ℕ
  is : part ≡ letter_p ∷ digit
  writes : WritesDigit digit port

port_sound : (part : List ℕ) (port : ℕ) → port_of part ≡ Some port → IsPort part port
port_sound [] port h = absurd (cc)
port_sound (letter ∷ digit) port h =
    either (letter == letter_p) (decimal 1 digit) None port h
    (λ is found. record {
      digit = digit;
      is = ap (λ l. l ∷ digit) (let e : letter ≡ letter_p = grind (arith, nat_tests, is) in e);
      writes = number_sound 10 1 digit port found;
    })
    (λ _ none. absurd (cc))

pin_sound : (line text : List ℕ) (form : LineForm) → IsCut line (codes "PIN") text → pin_of text ≡ Some form
    → WritesForm line form
pin_sound line text form k h =
    let first = goes_on _ (cut text) form h in
    let cycle = goes_on _ (decimal 10 first.value.0) form first.goes in
    let second = goes_on _ (cut first.value.1) form cycle.goes in
    let port = goes_on _ (port_of second.value.0) form second.goes in
    let level = goes_on _ (hexadecimal second.value.1) form port.goes in
    let one = cut_sound text first.value first.found in
    let two = cut_sound first.value.1 second.value second.found in
    let pn = port_sound second.value.0 port.value port.found in
    Pins {one = k.blanks} {two = one.blanks} {three = two.blanks} {cc = first.value.0} {n = pn.digit}
    {hh = second.value.1} {cycle = cycle.value} {port = port.value} {level = level.value}
    k.blank (number_sound 10 10 first.value.0 cycle.value cycle.found) one.blank pn.writes two.blank
    (number_sound 16 4 second.value.1 level.value level.found)
    (k.is ∙ ap (λ l. codes "PIN" ++ (k.blanks ++ l))
    (one.is ∙ ap (λ l. first.value.0 ++ (one.blanks ++ l))
    (two.is ∙ ap (λ l. l ++ (two.blanks ++ second.value.1)) pn.is)))
    (sym (same_Some (Pin cycle.value port.value level.value) form level.goes))

frame_sound : (line text rest cc : List ℕ) (cycle : ℕ) (form : LineForm) (o : Option (List ℕ × List ℕ))
    → IsCut line (codes "RX") text → IsCut text cc rest → WritesCycle cc cycle → cut rest ≡ o
    → option_and_then (λ (frame : ℕ × ℕ). Some (Receive cycle frame.0 frame.1)) (received_as rest o) ≡ Some form
    → WritesForm line form
frame_sound line text rest cc cycle form None k one w e h =
    let frame = goes_on (λ (frame : ℕ × ℕ). Some (Receive cycle frame.0 frame.1)) (received_as rest None) form h in
    let byte = goes_on (λ byte. Some (byte, 1)) (hexadecimal rest) frame.value frame.found in
    let says : Receive cycle byte.value 1 ≡ form =
    ap (λ (f : ℕ × ℕ). Receive cycle f.0 f.1) (same_Some (byte.value, 1) frame.value byte.goes)
    ∙ same_Some (Receive cycle frame.value.0 frame.value.1) form frame.goes in
    Receives {one = k.blanks} {two = one.blanks} {cc = cc} {hh = rest} {cycle = cycle} {byte = byte.value} k.blank w
    one.blank (number_sound 16 4 rest byte.value byte.found)
    (k.is ∙ ap (λ l. codes "RX" ++ (k.blanks ++ l)) one.is) (sym says)
frame_sound line text rest cc cycle form (Some parts) k one w e h =
    let frame = goes_on (λ (frame : ℕ × ℕ). Some (Receive cycle frame.0 frame.1)) (received_as rest (Some parts)) form
    h in
    let byte = goes_on (λ byte. option_and_then (λ bit. Some (byte, bit)) (decimal 1 parts.1)) (hexadecimal parts.0)
    frame.value frame.found in
    let bit = goes_on (λ bit. Some (byte.value, bit)) (decimal 1 parts.1) frame.value byte.goes in
    let two = cut_sound rest parts e in
    let says : Receive cycle byte.value bit.value ≡ form =
    ap (λ (f : ℕ × ℕ). Receive cycle f.0 f.1) (same_Some (byte.value, bit.value) frame.value bit.goes)
    ∙ same_Some (Receive cycle frame.value.0 frame.value.1) form frame.goes in
    ReceivesBit {one = k.blanks} {two = one.blanks} {three = two.blanks} {cc = cc} {hh = parts.0} {b = parts.1}
    {cycle = cycle} {byte = byte.value} {bit = bit.value}
    k.blank w one.blank (number_sound 16 4 parts.0 byte.value byte.found) two.blank
    (number_sound 10 1 parts.1 bit.value bit.found)
    (k.is ∙ ap (λ l. codes "RX" ++ (k.blanks ++ l)) (one.is ∙ ap (λ l. cc ++ (one.blanks ++ l)) two.is)) (sym says)

receive_sound : (line text : List ℕ) (form : LineForm) → IsCut line (codes "RX") text → receive_of text ≡ Some form
    → WritesForm line form
receive_sound line text form k h =
    let first = goes_on _ (cut text) form h in
    let cycle = goes_on _ (decimal 10 first.value.0) form first.goes in
    frame_sound line text first.value.1 first.value.0 cycle.value form (cut first.value.1) k
    (cut_sound text first.value first.found)
    (number_sound 10 10 first.value.0 cycle.value cycle.found) refl cycle.goes

word_sound : (line word text : List ℕ) (form : LineForm) → IsCut line word text → form_by_word word text ≡ Some form
    → WritesForm line form
unfolding form_by_word
word_sound line word text form k h =
    either (bytes_eq word (codes "FILL")) (fill_of text) _ form h
    (λ is found. fill_sound line text form
    (rw ((bytes_eq-Decides word (codes "FILL")).0 is) at k) found)
    λ _ h2. either (bytes_eq word (codes "PIN")) (pin_of text) _ form h2
    (λ is found. pin_sound line text form
    (rw ((bytes_eq-Decides word (codes "PIN")).0 is) at k) found)
    λ _ h3. either (bytes_eq word (codes "RX")) (receive_of text) None form h3
    (λ is found. receive_sound line text form
    (rw ((bytes_eq-Decides word (codes "RX")).0 is) at k) found)
    λ _ h4. absurd (cc)

line_sound : (line : List ℕ) (form : LineForm) → line_form line ≡ Some form → WritesForm line form
line_sound line form h =
    let parts = goes_on _ (cut line) form h in
    word_sound line parts.value.0 parts.value.1 form (cut_sound line parts.value parts.found) parts.goes

-- a number, blanks and a text
cut_number : {base most n : ℕ} {part blanks : List ℕ} (rest : List ℕ) → WritesNumber base most part n → base ≤ 16
    → AreBlanks blanks → prefix_len is_blank rest ≡ 0 → cut (part ++ (blanks ++ rest)) ≡ Some (part, rest)
cut_number {part = part} {blanks} rest w small blank stops =
    cut_complete part blanks rest (number_lacks small w) blank stops

-- a text that begins with a number
number_starts : {base most n : ℕ} {part : List ℕ} (rest : List ℕ) → WritesNumber base most part n → base ≤ 16
    → prefix_len is_blank (part ++ rest) ≡ 0
number_starts {part = part} rest w small = starts part rest w.some (number_lacks small w)

number_alone : {base most n : ℕ} {part : List ℕ} → WritesNumber base most part n → base ≤ 16
    → prefix_len is_blank part ≡ 0
number_alone {part = part} w small = starts_alone part (number_lacks small w)

line_complete : (line : List ℕ) (form : LineForm) → WritesForm line form → line_form line ≡ Some form
unfolding form_by_word
line_complete line form (Fills {one = one} {hh = hh} {byte = byte} b1 wh is says) =
    rw (
      says,
      is,
      cut_complete (codes "FILL") one hh refl b1 (number_alone wh (omega arith)),
      number_complete wh,
    ) refl
line_complete line form
    (Pins {one = one} {two = two} {three = three} {cc = cc} {n = n} {hh = hh} {cycle = cycle} {port = port}
    {level = level} b1 wc b2 wn b3 wh is says) =
    let rest = (letter_p ∷ n) ++ (three ++ hh) in
    rw (
      says,
      is,
      cut_complete (codes "PIN") one (cc ++ (two ++ rest)) refl b1 (number_starts _ wc (omega arith)),
      cut_number rest wc (omega arith) b2 refl,
      number_complete wc,
      cut_complete (letter_p ∷ n) three hh (number_lacks (omega arith) wn) b3 (number_alone wh (omega arith)),
      number_complete wn,
      number_complete wh,
    ) refl
line_complete line form
    (Receives {one = one} {two = two} {cc = cc} {hh = hh} {cycle = cycle} {byte = byte} b1 wc b2 wh is says) =
    rw (
      says,
      is,
      cut_complete (codes "RX") one (cc ++ (two ++ hh)) refl b1 (number_starts _ wc (omega arith)),
      cut_number hh wc (omega arith) b2 (number_alone wh (omega arith)),
      number_complete wc,
      cut_none hh (number_lacks (omega arith) wh),
      number_complete wh,
    ) refl
line_complete line form
    (ReceivesBit {one = one} {two = two} {three = three} {cc = cc} {hh = hh} {b = b} {cycle = cycle} {byte = byte}
    {bit = bit} b1 wc b2 wh b3 wb is says) =
    let rest = hh ++ (three ++ b) in
    rw (
      says,
      is,
      cut_complete (codes "RX") one (cc ++ (two ++ rest)) refl b1 (number_starts _ wc (omega arith)),
      cut_number rest wc (omega arith) b2 (number_starts _ wh (omega arith)),
      number_complete wc,
      cut_number b wh (omega arith) b3 (number_alone wb (omega arith)),
      number_complete wh,
      number_complete wb,
    ) refl

pub read_as_written : ReadAsWritten
read_as_written = λ line form. (line_sound line form, line_complete line form)
