-- SPDX-License-Identifier: GPL-2.0-only
-- The command that `clap` reads the words by.
use Rattle.std.specs.Prelude.{◌≡◌, ℕ, Bool, true, false, ◌==◌, List, [], ◌∷◌, codes, None}
use Rattle.clap.specs.Lexer.{strip_byte}
use Rattle.clap.specs.Simple.{on_top}
use Rattle.clap.specs.Words.{App, Rule, Text, new_app, new_rule, with_rule, with_subcommand}

-- a positional that is wanted
abbrev pub wanted : Text → Rule
wanted id = record (new_rule id) { required = true }

-- `run`, which takes nothing
abbrev pub run_app : App
run_app = new_app (codes "run")

-- `gen`, which takes three words
abbrev pub gen_app : App
gen_app = with_rule (with_rule (with_rule (new_app (codes "gen")) (wanted (codes "seed"))) (wanted (codes "workers"))) (wanted (codes "commands"))

-- `audit`, which takes nothing
abbrev pub audit_app : App
audit_app = new_app (codes "audit")

-- The program has these three subcommands, of which one is wanted. It has no help, and its name isn't
-- among the words.
abbrev pub the_app : App
the_app = with_subcommand (with_subcommand (with_subcommand (on_top (λ s. record s { no_binary_name = true; disable_help_flag = true; disable_help_subcommand = true; subcommand_required = true }) (new_app (codes "shrinkers"))) run_app.top) gen_app.top) audit_app.top

-- the word begins with a hyphen, or with none
abbrev pub has_hyphen : List ℕ → Bool
has_hyphen [] = false
has_hyphen (x ∷ xs) = x == 45

-- a word that begins with no hyphen, and so is no option
abbrev pub IsPlainWord : Text → Type 0
IsPlainWord w = strip_byte 45 w ≡ None
