-- SPDX-License-Identifier: GPL-2.0-only
-- Lines that stand in one state stand in another, of other numbers of workers and commands, and are
-- spelled there alike.
use Rattle.std.proofs.Common.{◌≡◌, ℕ, ◌+◌, ◌≤◌, false, List, [], ◌∷◌, ◌++◌, refl, sym, ap, subst, ◌∙◌, append_assoc, arith, Ok}
use Rattle.std.specs.Prelude.{nat_le}
use Rattle.std.proofs.lemmas.Bool.Decides.{nat_tests}
use Rattle.shr_base.specs.declared.scripts.Code.{Code}
use Rattle.shr_base.specs.declared.scripts.Code.TheVariants as codes_of
use Rattle.shr_words.specs.Classes.{Item}
use Rattle.shr_script.specs.declared.kind.Kind.{Kind}
use Rattle.shr_script.specs.declared.kind.Kind.TheVariants.{Header, Size, Group, Cache, Pool, Worker, Work, Sweep, End}
use Rattle.shr_script.specs.declared.kind.Verb.{Verb}
use Rattle.shr_script.specs.declared.kind.Verb.TheVariants.{Put, On, Shrink, Balance, Offline, MkGroup, Register, Unregister, Isolate, Release, Grab}
use Rattle.shr_script.specs.declared.kind.Phase.{Phase}
use Rattle.shr_script.specs.Lines.{State, Line, after, classes, own, refused_if, group_rule, cache_rule, pool_rule}
use Rattle.shr_script.specs.Script.{AreLines, line_text, spell_lines, state_after_lines}

-- the same declarations, where so much else was said
abbrev pub moved : State → Phase → ℕ → ℕ → State
moved st phase workers commands = record st { phase = phase; workers = workers; commands = commands }

-- ---- lines in two parts

pub spell-append : (ls ms : List Line) (st : State) → spell_lines st (ls ++ ms) ≡ spell_lines st ls ++ spell_lines (state_after_lines st ls) ms
unfolding spell_lines state_after_lines
spell-append [] ms st = refl
spell-append (l ∷ ls) ms st =
    let next = after st l.0 l.1 in
    ap (λ (xs : List ℕ). line_text st l ++ (10 ∷ xs)) (spell-append ls ms next)
    ∙ sym (append_assoc (line_text st l) (10 ∷ spell_lines next ls) (spell_lines (state_after_lines next ls) ms))

pub join_lines : (ls ms : List Line) (st : State) → AreLines st ls → AreLines (state_after_lines st ls) ms → AreLines st (ls ++ ms)
unfolding state_after_lines AreLines
join_lines [] ms st g h = h
join_lines (l ∷ ls) ms st g h = (g.0, join_lines ls ms (after st l.0 l.1) g.1 h)

-- ---- the classes and the text of a line

verb_classes_same : (v : Verb) (st : State) (p : Phase) (n m : ℕ) → classes (moved st p n m) (Work v) ≡ classes st (Work v)
verb_classes_same Put st p n m = refl
verb_classes_same (On act) st p n m = refl
verb_classes_same Shrink st p n m = refl
verb_classes_same Balance st p n m = refl
verb_classes_same Offline st p n m = refl
verb_classes_same MkGroup st p n m = refl
verb_classes_same Register st p n m = refl
verb_classes_same Unregister st p n m = refl
verb_classes_same Isolate st p n m = refl
verb_classes_same Release st p n m = refl
verb_classes_same Grab st p n m = refl

pub classes_same : (k : Kind) (st : State) (p : Phase) (n m : ℕ) → classes (moved st p n m) k ≡ classes st k
classes_same Header st p n m = refl
classes_same Size st p n m = refl
classes_same (Group late) st p n m = refl
classes_same Cache st p n m = refl
classes_same Pool st p n m = refl
classes_same Worker st p n m = refl
classes_same (Work v) st p n m = verb_classes_same v st p n m
classes_same Sweep st p n m = refl
classes_same End st p n m = refl

-- a line changes a moved state as it changes the state
pub after_moved : (k : Kind) (xs : List Item) (st : State) (p : Phase) (n m : ℕ)
    → let s = after (moved st p n m) k xs in s ≡ moved (after st k xs) s.phase s.workers s.commands
after_moved Header xs st p n m = refl
after_moved Size xs st p n m = refl
after_moved (Group late) xs st p n m = refl
after_moved Cache xs st p n m = refl
after_moved Pool xs st p n m = refl
after_moved Worker xs st p n m = refl
after_moved (Work v) xs st p n m = refl
after_moved Sweep xs st p n m = refl
after_moved End xs st p n m = refl

-- lines are spelled alike in a moved state
pub spell_moved : (ls : List Line) (st : State) (p : Phase) (n m : ℕ) → spell_lines (moved st p n m) ls ≡ spell_lines st ls
unfolding spell_lines
spell_moved [] st p n m = refl
spell_moved (l ∷ ls) st p n m =
    let s = after (moved st p n m) l.0 l.1 in
    rw (classes_same l.0 st p n m)
    (ap (λ (t : State). line_text st l ++ (10 ∷ spell_lines t ls)) (after_moved l.0 l.1 st p n m)
    ∙ ap (λ (xs : List ℕ). line_text st l ++ (10 ∷ xs)) (spell_moved ls (after st l.0 l.1) s.phase s.workers s.commands))

-- ---- a line that stands in one state

-- the numbers of workers and commands are within the limits
pub record Within (st : State) : Type 0 where
  pub workers : st.workers ≤ 64
  pub commands : st.commands ≤ 20000

-- a line takes nothing from these numbers
one_less : (k : Kind) (xs : List Item) (st : State) → Within (after st k xs) → Within st
one_less Header xs st h = record { workers = h.workers; commands = h.commands }
one_less Size xs st h = record { workers = h.workers; commands = h.commands }
one_less (Group late) xs st h = record { workers = h.workers; commands = h.commands }
one_less Cache xs st h = record { workers = h.workers; commands = h.commands }
one_less Pool xs st h = record { workers = h.workers; commands = h.commands }
one_less Worker xs st h = let few = h.workers in record { workers = omega (arith, few); commands = h.commands }
one_less (Work v) xs st h = let few = h.commands in record { workers = h.workers; commands = omega (arith, few) }
one_less Sweep xs st h = record { workers = h.workers; commands = h.commands }
one_less End xs st h = record { workers = h.workers; commands = h.commands }

-- nor do lines
less : (ls : List Line) (st : State) → Within (state_after_lines st ls) → Within st
unfolding state_after_lines
less [] st h = h
less (l ∷ ls) st h = one_less l.0 l.1 st (less ls (after st l.0 l.1) h)

pub not_full : (most n : ℕ) (c : Code) → n + 1 ≤ most → refused_if (nat_le most n) c ≡ Ok tt
not_full most n c le = let few : nat_le most n ≡ false = grind (arith, nat_tests) in rw few refl

-- a line's own rule holds in a moved state
own_moved : (k : Kind) (xs : List Item) (st : State) (p : Phase) (n m : ℕ) → own st k xs ≡ Ok tt → Within (after (moved st p n m) k xs) → own (moved st p n m) k xs ≡ Ok tt
unfolding group_rule cache_rule pool_rule
own_moved Header xs st p n m e h = refl
own_moved Size xs st p n m e h = refl
own_moved (Group late) xs st p n m e h = e
own_moved Cache xs st p n m e h = e
own_moved Pool xs st p n m e h = e
own_moved Worker xs st p n m e h = not_full 64 n codes_of.TooMany h.workers
own_moved (Work v) xs st p n m e h = not_full 20000 m codes_of.TooMany h.commands
own_moved Sweep xs st p n m e h = refl
own_moved End xs st p n m e h = refl

-- Lines that may stand may stand in a state of the same phase, if there is room for them.
pub lines_moved : (ls : List Line) (st : State) (n m : ℕ) → AreLines st ls → Within (state_after_lines (moved st st.phase n m) ls) → AreLines (moved st st.phase n m) ls
unfolding state_after_lines AreLines
lines_moved [] st n m g h = tt
lines_moved (l ∷ ls) st n m g h =
    let s = after (moved st st.phase n m) l.0 l.1 in
    let next = after st l.0 l.1 in
    let is : s ≡ moved next next.phase s.workers s.commands = after_moved l.0 l.1 st st.phase n m ∙ ap (λ (p : Phase). moved next p s.workers s.commands) (phase_same l.0 l.1 st n m) in
    let rest = lines_moved ls next s.workers s.commands g.1 (subst (λ (t : State). Within (state_after_lines t ls)) is h) in (
      record {
        stands = g.0.stands;
        words = rw (classes_same l.0 st st.phase n m) g.0.words;
        rule = own_moved l.0 l.1 st st.phase n m g.0.rule (less ls s h);
      },
      subst (λ (t : State). AreLines t ls) (sym is) rest,
    )
  where
    phase_same : (k : Kind) (xs : List Item) (st : State) (n m : ℕ) → (after (moved st st.phase n m) k xs).phase ≡ (after st k xs).phase
    phase_same Header xs st n m = refl
    phase_same Size xs st n m = refl
    phase_same (Group late) xs st n m = refl
    phase_same Cache xs st n m = refl
    phase_same Pool xs st n m = refl
    phase_same Worker xs st n m = refl
    phase_same (Work v) xs st n m = refl
    phase_same Sweep xs st n m = refl
    phase_same End xs st n m = refl
