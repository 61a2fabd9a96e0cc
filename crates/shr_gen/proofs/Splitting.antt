-- SPDX-License-Identifier: GPL-2.0-only
-- What `clap` makes of words that begin with no hyphen: the one word `run` or `audit`, or `gen` with three more, and of no others.
use Rattle.shr_gen.proofs.FormsCommon.{◌≡◌, ℕ, Bool, true, false, List, [], ◌∷◌, refl, sym, ap, ap₂, ◌∙◌, subst, codes, Option, Some, None, AllByRecursion, bytes_eq-Decides, Row, Text, fault_of, is_simple, is_simple_and_free, first_of, subcommand_of, IsPlainWord, the_app, inl, inr, ◌++◌, append_assoc, if◌then◌else◌, fold, bytes_eq, option_and_then, find, unwrap_or, Rule, Shape, Kinds, built, run_app, gen_app, audit_app}
use Rattle.std.specs.Option.{option_map_or}
use Rattle.std.proofs.lemmas.Bool.{cases_Bool}
use Rattle.std.proofs.lemmas.List.{append-nil}
use Rattle.clap.specs.Lexer.{strip_byte, long_of, short_of, long_of_rest, short_of_rest}
use Rattle.clap.specs.Walk.{Held, Names, Walk, Step, idle, value, trailing, word_met, subcommand_or_other, long_or_other, short_or_plain, after_step, to_positional, arg_by_index, walked, walk_from, walk, nothing_held, finished, settled, answers_to, Waiting, subcommand_met}
use Rattle.clap.specs.Simple.{names_of, label_of}
use Rattle.clap.specs.Faults.{turn_fault, step_fault, walk_fault, level_fault, word_fault, flag_word_fault, bundle_fault, entered_fault, settle_fault, defaults_fault, check_fault}
use Rattle.clap.specs.Kinds.{or_else}
use Rattle.clap.proofs.OnLiterals.{clap_on_literals}

-- ---- the command

pub simple : is_simple the_app ≡ true
simple = refl

pub simple_and_free : is_simple_and_free the_app ≡ true
simple_and_free = refl

-- ---- one word

no_hyphens : (w : Text) → IsPlainWord w → bytes_eq w (45 ∷ 45 ∷ []) ≡ false
no_hyphens w plain = elim (cases_Bool (bytes_eq w (45 ∷ 45 ∷ []))) [
  | inl t ↦ let same = (bytes_eq-Decides w (45 ∷ 45 ∷ [])).0 t in let no : Some (45 ∷ []) ≡ None = subst (λ v. strip_byte 45 v ≡ None) same plain in absurd cc
  | inr f ↦ f
]

no_long : (w : Text) → IsPlainWord w → long_of w ≡ None
no_long w plain = ap (λ o. option_and_then long_of_rest (option_and_then (strip_byte 45) o)) plain

no_short : (w : Text) → IsPlainWord w → short_of w ≡ None
no_short w plain = ap (λ o. option_and_then short_of_rest o) plain

-- where the walk stands, with nothing waiting
abbrev stand : Held → ℕ → Walk
stand h position = record { held = h; waiting = idle; position = position; is_trailing = false; stopped = None }

-- a plain word that names no subcommand is a value
met_value : (c : List Rule) (position : ℕ) (w : Text) (h : Held) → IsPlainWord w → subcommand_or_other c None idle position w h ≡ (h, value)
met_value c position w h plain =
    ap (λ b. if b then (h, trailing position) else long_or_other c idle w (long_of w) h) (no_hyphens w plain)
    ∙ (ap (λ o. long_or_other c idle w o h) (no_long w plain) ∙ ap (λ o. short_or_plain c idle w o h) (no_short w plain))

walked_value : (c : List Rule) (position : ℕ) (w : Text) (h : Held) → IsPlainWord w → walked c [] (stand h position) w ≡ to_positional c (arg_by_index c position) w (stand h position) h
unfolding walked
walked_value c position w h plain = ap (λ met. after_step c w (stand h position) met.0 met.1) (met_value c position w h plain)

-- such a word is no mistake by itself
no_fault : (s : Shape) (w : Text) (h : Held) → IsPlainWord w → word_fault s [] false idle w h ≡ []
no_fault s w h plain =
    ap (λ b. if b then [] else flag_word_fault s.rules s.args_override_self (long_of w) w h) (no_hyphens w plain)
    ∙ (ap (λ o. flag_word_fault s.rules s.args_override_self o w h) (no_long w plain) ∙ ap (λ o. option_map_or (λ flags. bundle_fault s.rules s.args_override_self flags h) o []) (no_short w plain))

turn_value : (s : Shape) (position : ℕ) (w : Text) (h : Held) → IsPlainWord w → turn_fault s [] (stand h position) w ≡ step_fault s position h value
turn_value s position w h plain = ap₂ or_else (no_fault s w h plain) (ap (λ met. step_fault s position met.0 met.1) (met_value s.rules position w h plain))

-- ---- the words of `gen`

-- the three subcommands as they are built
abbrev run_shape : Shape
run_shape = unwrap_or (find (λ (s : Shape). answers_to (codes "run") (label_of s)) (built the_app).subs) run_app.top

abbrev gen_shape : Shape
gen_shape = unwrap_or (find (λ (s : Shape). answers_to (codes "gen") (label_of s)) (built the_app).subs) gen_app.top

abbrev pub audit_shape : Shape
audit_shape = unwrap_or (find (λ (s : Shape). answers_to (codes "audit") (label_of s)) (built the_app).subs) audit_app.top

-- what is left to fault once the words were walked
abbrev rest_fault : Shape → Held → Kinds
rest_fault s end = or_else (settle_fault s.rules s.args_override_self end) (or_else (defaults_fault (settled s.rules end).rows s.rules) (check_fault s (finished s.rules end) false))

both_none : (x y : Kinds) → or_else x y ≡ [] → (x ≡ []) × (y ≡ [])
both_none [] y h = (refl, h)
both_none (k ∷ ks) y h = absurd cc

level_parts : (s : Shape) (words : List Text) → level_fault s [] nothing_held words false [] ≡ [] → (walk_fault s [] (walk_from nothing_held) words ≡ []) × (rest_fault s (walk s.rules [] nothing_held words).held ≡ [])
level_parts s words h = both_none (walk_fault s [] (walk_from nothing_held) words) (rest_fault s (walk s.rules [] nothing_held words).held) h

first_turn : (s : Shape) (names : Names) (w : Walk) (word : Text) (rest : List Text) → walk_fault s names w (word ∷ rest) ≡ [] → (turn_fault s names w word ≡ []) × (walk_fault s names (walked s.rules names w word) rest ≡ [])
unfolding walk_fault
first_turn s names w word rest h = both_none (turn_fault s names w word) (walk_fault s names (walked s.rules names w word) rest) h

abbrev R : List Rule
R = gen_shape.rules

abbrev after_one : Text → Walk
after_one a = to_positional R (arg_by_index R 1) a (stand nothing_held 1) nothing_held

abbrev after_two : Text → Text → Walk
after_two a b = to_positional R (arg_by_index R 2) b (stand (after_one a).held 2) (after_one a).held

abbrev after_three : Text → Text → Text → Walk
after_three a b c = to_positional R (arg_by_index R 3) c (stand (after_two a b).held 3) (after_two a b).held

-- no word is too few
none_faults : level_fault gen_shape [] nothing_held [] false [] ≡ [] → ⊥
unfolding clap_on_literals
none_faults none = absurd cc

module _ (a : Text) (plain_a : IsPlainWord a) where
  one_walked : walked R [] (stand nothing_held 1) a ≡ after_one a
  one_walked = walked_value R 1 a nothing_held plain_a

  one_missing : rest_fault gen_shape (after_one a).held ≡ [] → ⊥
  unfolding clap_on_literals
  one_missing none = absurd cc

  one_faults : level_fault gen_shape [] nothing_held (a ∷ []) false [] ≡ [] → ⊥
  one_faults none = one_missing (subst (λ (w : Walk). rest_fault gen_shape w.held ≡ []) one_walked (level_parts gen_shape (a ∷ []) none).1)

  module _ (b : Text) (plain_b : IsPlainWord b) where
    two_walked : walked R [] (walked R [] (stand nothing_held 1) a) b ≡ after_two a b
    two_walked = ap (λ w. walked R [] w b) one_walked ∙ walked_value R 2 b (after_one a).held plain_b

    two_missing : rest_fault gen_shape (after_two a b).held ≡ [] → ⊥
    unfolding clap_on_literals
    two_missing none = absurd cc

    two_faults : level_fault gen_shape [] nothing_held (a ∷ b ∷ []) false [] ≡ [] → ⊥
    two_faults none = two_missing (subst (λ (w : Walk). rest_fault gen_shape w.held ≡ []) two_walked (level_parts gen_shape (a ∷ b ∷ []) none).1)

    module _ (c : Text) (plain_c : IsPlainWord c) where
      three_walked : walked R [] (walked R [] (walked R [] (stand nothing_held 1) a) b) c ≡ after_three a b c
      three_walked = ap (λ w. walked R [] w c) two_walked ∙ walked_value R 3 c (after_two a b).held plain_c

      first_right : turn_fault gen_shape [] (stand nothing_held 1) a ≡ []
      unfolding clap_on_literals
      first_right = turn_value gen_shape 1 a nothing_held plain_a

      second_right : turn_fault gen_shape [] (walked R [] (stand nothing_held 1) a) b ≡ []
      second_right = ap (λ w. turn_fault gen_shape [] w b) one_walked ∙ turn_value gen_shape 2 b (after_one a).held plain_b

      third_right : turn_fault gen_shape [] (walked R [] (walked R [] (stand nothing_held 1) a) b) c ≡ []
      third_right = ap (λ w. turn_fault gen_shape [] w c) two_walked ∙ turn_value gen_shape 3 c (after_two a b).held plain_c

      walk_right : walk_fault gen_shape [] (walk_from nothing_held) (a ∷ b ∷ c ∷ []) ≡ []
      unfolding walk_fault
      walk_right = rw (first_right, second_right, third_right) refl

      rest_right : rest_fault gen_shape (after_three a b c).held ≡ []
      unfolding clap_on_literals
      rest_right = refl

      three_right : level_fault gen_shape [] nothing_held (a ∷ b ∷ c ∷ []) false [] ≡ []
      three_right = ap₂ or_else walk_right (ap (λ (w : Walk). rest_fault gen_shape w.held) three_walked ∙ rest_right)

      -- and a fourth is too many
      four_fault : (d : Text) (more : List Text) → IsPlainWord d → level_fault gen_shape [] nothing_held (a ∷ b ∷ c ∷ d ∷ more) false [] ≡ [] → ⊥
      four_fault d more plain_d none =
          let one = first_turn gen_shape [] (walk_from nothing_held) a (b ∷ c ∷ d ∷ more) (level_parts gen_shape (a ∷ b ∷ c ∷ d ∷ more) none).0 in
          let two = first_turn gen_shape [] (walked R [] (stand nothing_held 1) a) b (c ∷ d ∷ more) one.1 in
          let three = first_turn gen_shape [] (walked R [] (walked R [] (stand nothing_held 1) a) b) c (d ∷ more) two.1 in
          let four = first_turn gen_shape [] (walked R [] (walked R [] (walked R [] (stand nothing_held 1) a) b) c) d more three.1 in
          stray (sym (ap (λ w. turn_fault gen_shape [] w d) three_walked ∙ turn_value gen_shape 4 d (after_three a b c).held plain_d) ∙ four.0)
        where
          stray : step_fault gen_shape 4 (after_three a b c).held value ≡ [] → ⊥
          stray h = absurd cc

-- ---- the words of `run` and `audit`

run_alone : (v : Text) (more : List Text) → IsPlainWord v → level_fault run_shape [] nothing_held (v ∷ more) false [] ≡ [] → ⊥
run_alone v more plain none = stray (sym (turn_value run_shape 1 v nothing_held plain) ∙ (first_turn run_shape [] (walk_from nothing_held) v more (level_parts run_shape (v ∷ more) none).0).0)
  where
    stray : step_fault run_shape 1 nothing_held value ≡ [] → ⊥
    stray h = absurd cc

audit_alone : (v : Text) (more : List Text) → IsPlainWord v → level_fault audit_shape [] nothing_held (v ∷ more) false [] ≡ [] → ⊥
audit_alone v more plain none = stray (sym (turn_value audit_shape 1 v nothing_held plain) ∙ (first_turn audit_shape [] (walk_from nothing_held) v more (level_parts audit_shape (v ∷ more) none).0).0)
  where
    stray : step_fault audit_shape 1 nothing_held value ≡ [] → ⊥
    stray h = absurd cc

-- ---- the first word

abbrev top : Shape
top = (built the_app).top

abbrev names : Names
names = names_of (built the_app)

-- once a subcommand was met, the words after it are its own
stopped_stays : (c : List Rule) (held : Held) (waiting : Waiting) (position : ℕ) (trails : Bool) (name : Text) (taken rest : List Text)
    → (fold (walked c names) (record { held = held; waiting = waiting; position = position; is_trailing = trails; stopped = Some (name, taken) }) rest).stopped ≡ Some (name, taken ++ rest)
unfolding walked
stopped_stays c held waiting position trails name taken [] = ap (λ l. Some (name, l)) (sym (append-nil taken))
stopped_stays c held waiting position trails name taken (w ∷ rest) = stopped_stays c held waiting position trails name (taken ++ w ∷ []) rest ∙ ap (λ l. Some (name, l)) (append_assoc taken (w ∷ []) rest)

abbrev stop_of : List Text → Option (Text × List Text)
stop_of words = (walk top.rules names nothing_held words).stopped

run_stops : (rest : List Text) → stop_of (codes "run" ∷ rest) ≡ Some (codes "run", rest)
unfolding walked
run_stops rest = stopped_stays top.rules nothing_held idle 1 false (codes "run") [] rest

gen_stops : (rest : List Text) → stop_of (codes "gen" ∷ rest) ≡ Some (codes "gen", rest)
unfolding walked
gen_stops rest = stopped_stays top.rules nothing_held idle 1 false (codes "gen") [] rest

audit_stops : (rest : List Text) → stop_of (codes "audit" ∷ rest) ≡ Some (codes "audit", rest)
unfolding walked
audit_stops rest = stopped_stays top.rules nothing_held idle 1 false (codes "audit") [] rest

-- what is below is without a fault where all is
below_right : (words : List Text) → fault_of the_app words ≡ [] → entered_fault (built the_app) (stop_of words) ≡ []
below_right words none = (both_none (entered_fault (built the_app) (stop_of words)) _ (both_none (walk_fault top names (walk_from nothing_held) words) _ none).1).0

walk_is_right : (words : List Text) → fault_of the_app words ≡ [] → walk_fault top names (walk_from nothing_held) words ≡ []
walk_is_right words none = (both_none (walk_fault top names (walk_from nothing_held) words) _ none).0

no_words : fault_of the_app [] ≡ [] → ⊥
unfolding clap_on_literals
no_words none = absurd cc

module _ (w : Text) (plain : IsPlainWord w) (not_run : bytes_eq (codes "run") w ≡ false) (not_gen : bytes_eq (codes "gen") w ≡ false) (not_audit : bytes_eq (codes "audit") w ≡ false) where
  no_subcommand : subcommand_met names idle w ≡ None
  no_subcommand = rw (not_run, not_gen, not_audit) refl

  met_none : word_met top.rules names false idle 1 w nothing_held ≡ (nothing_held, value)
  met_none = ap (λ o. subcommand_or_other top.rules o idle 1 w nothing_held) no_subcommand ∙ met_value top.rules 1 w nothing_held plain

  other_word : (rest : List Text) → fault_of the_app (w ∷ rest) ≡ [] → ⊥
  other_word rest none =
      let turn = (first_turn top names (walk_from nothing_held) w rest (walk_is_right (w ∷ rest) none)).0 in
      let step = (both_none (word_fault top names false idle w nothing_held) (step_fault top 1 (word_met top.rules names false idle 1 w nothing_held).0 (word_met top.rules names false idle 1 w nothing_held).1) turn).1 in
      stray (subst (λ (met : Held × Step). step_fault top 1 met.0 met.1 ≡ []) met_none step)
    where
      stray : step_fault top 1 nothing_held value ≡ [] → ⊥
      stray h = absurd cc

-- ---- all the words

-- the words are the one word `run` or `audit`, or `gen` and three more
pub data AreSplit (words : List Text) : Type 0 where
  as_run : words ≡ codes "run" ∷ [] → AreSplit words
  as_audit : words ≡ codes "audit" ∷ [] → AreSplit words
  as_gen : (a b c : Text) → words ≡ codes "gen" ∷ a ∷ b ∷ c ∷ [] → AreSplit words

run_split : (rest : List Text) → AllByRecursion IsPlainWord rest → level_fault run_shape [] nothing_held rest false [] ≡ [] → AreSplit (codes "run" ∷ rest)
run_split [] plain none = as_run refl
run_split (v ∷ more) plain none = absurd (run_alone v more plain.0 none)

gen_split : (rest : List Text) → AllByRecursion IsPlainWord rest → level_fault gen_shape [] nothing_held rest false [] ≡ [] → AreSplit (codes "gen" ∷ rest)
gen_split [] plain none = absurd (none_faults none)
gen_split (a ∷ []) plain none = absurd (one_faults a plain.0 none)
gen_split (a ∷ b ∷ []) plain none = absurd (two_faults a plain.0 b plain.1.0 none)
gen_split (a ∷ b ∷ c ∷ []) plain none = as_gen a b c refl
gen_split (a ∷ b ∷ c ∷ d ∷ more) plain none = absurd (four_fault a plain.0 b plain.1.0 c plain.1.1.0 d more plain.1.1.1.0 none)

audit_split : (rest : List Text) → AllByRecursion IsPlainWord rest → level_fault audit_shape [] nothing_held rest false [] ≡ [] → AreSplit (codes "audit" ∷ rest)
audit_split [] plain none = as_audit refl
audit_split (v ∷ more) plain none = absurd (audit_alone v more plain.0 none)

-- `clap` finds no fault with these words alone
pub split : (words : List Text) → AllByRecursion IsPlainWord words → fault_of the_app words ≡ [] → AreSplit words
split [] plain none = absurd (no_words none)
split (w ∷ rest) plain none = elim (cases_Bool (bytes_eq (codes "run") w)) [
  | inl t ↦ let same = (bytes_eq-Decides (codes "run") w).0 t in subst (λ v. AreSplit (v ∷ rest)) same (run_split rest plain.1
      (subst (λ o. entered_fault (built the_app) o ≡ []) (run_stops rest) (below_right (codes "run" ∷ rest) (subst (λ v. fault_of the_app (v ∷ rest) ≡ []) (sym same) none))))
  | inr not_run ↦ elim (cases_Bool (bytes_eq (codes "gen") w)) [
    | inl t ↦ let same = (bytes_eq-Decides (codes "gen") w).0 t in subst (λ v. AreSplit (v ∷ rest)) same (gen_split rest plain.1
        (subst (λ o. entered_fault (built the_app) o ≡ []) (gen_stops rest) (below_right (codes "gen" ∷ rest) (subst (λ v. fault_of the_app (v ∷ rest) ≡ []) (sym same) none))))
    | inr not_gen ↦ elim (cases_Bool (bytes_eq (codes "audit") w)) [
      | inl t ↦ let same = (bytes_eq-Decides (codes "audit") w).0 t in subst (λ v. AreSplit (v ∷ rest)) same (audit_split rest plain.1
          (subst (λ o. entered_fault (built the_app) o ≡ []) (audit_stops rest) (below_right (codes "audit" ∷ rest) (subst (λ v. fault_of the_app (v ∷ rest) ≡ []) (sym same) none))))
      | inr not_audit ↦ absurd (other_word w plain.0 not_run not_gen not_audit rest none)
    ]
  ]
]

-- and none with each of these
pub run_right : fault_of the_app (codes "run" ∷ []) ≡ []
unfolding clap_on_literals
run_right = refl

pub run_met : subcommand_of the_app (codes "run" ∷ []) ≡ Some (codes "run", [])
unfolding clap_on_literals
run_met = refl

pub audit_right : fault_of the_app (codes "audit" ∷ []) ≡ []
unfolding clap_on_literals
audit_right = refl

pub audit_met : subcommand_of the_app (codes "audit" ∷ []) ≡ Some (codes "audit", [])
unfolding clap_on_literals
audit_met = refl

module _ (a b c : Text) (plain_a : IsPlainWord a) (plain_b : IsPlainWord b) (plain_c : IsPlainWord c) where
  pub gen_right : fault_of the_app (codes "gen" ∷ a ∷ b ∷ c ∷ []) ≡ []
  unfolding clap_on_literals
  gen_right = ap (λ k. or_else k []) (three_right a plain_a b plain_b c plain_c)

  abbrev pub rows : List Row
  rows = finished R (after_three a b c).held

  pub gen_met : subcommand_of the_app (codes "gen" ∷ a ∷ b ∷ c ∷ []) ≡ Some (codes "gen", rows)
  unfolding clap_on_literals
  gen_met = ap (λ (w : Walk). Some (codes "gen", finished R w.held)) (three_walked a plain_a b plain_b c plain_c)

  pub first_is : first_of (codes "seed") rows ≡ Some a
  unfolding clap_on_literals
  first_is = refl

  pub second_is : first_of (codes "workers") rows ≡ Some b
  unfolding clap_on_literals
  second_is = refl

  pub third_is : first_of (codes "commands") rows ≡ Some c
  unfolding clap_on_literals
  third_is = refl
