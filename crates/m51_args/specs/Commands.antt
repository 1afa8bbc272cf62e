-- The verbs as simple commands, and what the definition of a simple command makes of words.
use Rattle.std.specs.Prelude.{List, [], ◌∷◌, Option, Some, None, codes}
use Rattle.clap.specs.Words.{App, Kinds, Row, Rule, Text, all_of, fault_of, first_of, matches_of, new_app, new_rule}
use Rattle.clap.specs.Words.{with_rule}
use Rattle.clap.specs.declared.builder.action.ArgAction.TheVariants.{Set, Append}

-- an option --name of one value
abbrev pub option_rule : Text → Rule
option_rule name = record (new_rule name) { long = Some name; action = Some Set }

-- the positional that takes all other words
abbrev pub words_rule : Rule
words_rule = record (new_rule (codes "word")) { action = Some Append }

-- the command with these options too
abbrev pub with_options : App → List Text → App
with_options app [] = app
with_options app (name ∷ names) = with_options (with_rule app (option_rule name)) names

-- a verb that takes options only, and one that takes other words too
abbrev pub bare_app : Text → List Text → App
bare_app verb options = with_options (new_app verb) options

abbrev pub verb_app : Text → List Text → App
verb_app verb options = with_rule (bare_app verb options) words_rule

abbrev pub build_app : App
build_app = verb_app (codes "build") (codes "control" ∷ codes "script" ∷ codes "hex" ∷ codes "steps" ∷ [])

abbrev pub asm_app : App
asm_app = verb_app (codes "asm") (codes "out" ∷ [])

abbrev pub lib_app : App
lib_app = verb_app (codes "lib") []

abbrev pub flat_app : App
flat_app = verb_app (codes "flat") (codes "script" ∷ codes "steps" ∷ [])

abbrev pub gen_app : App
gen_app = bare_app (codes "gen") (codes "units" ∷ codes "start" ∷ codes "steps" ∷ [])

abbrev pub dis_app : App
dis_app = verb_app (codes "dis") (codes "control" ∷ [])

abbrev pub stack_app : App
stack_app = verb_app (codes "stack") (codes "control" ∷ [])

abbrev pub party_app : App
party_app = verb_app (codes "party") (codes "script" ∷ codes "steps" ∷ [])

abbrev pub unless_fault : Kinds → List Row → Option (List Row)
unless_fault [] rows = Some rows
unless_fault (kind ∷ kinds) rows = None

-- what the definition of a simple command makes of the words, the first of which is the verb: none where it has a fault
unfoldable pub rows_in : App → List Text → Option (List Row)
rows_in app words = unless_fault (fault_of app words) (matches_of app words)

-- the value of an option
abbrev pub option_value : Text → List Row → Option Text
option_value name rows = first_of name rows

-- the words that are no options, if there are any
abbrev pub words_of : List Row → Option (List Text)
words_of rows = all_of (codes "word") rows
