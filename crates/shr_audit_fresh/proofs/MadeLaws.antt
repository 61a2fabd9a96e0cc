-- SPDX-License-Identifier: GPL-2.0-only
-- Groups that a worker's answers showed to be made, one answer after another.
use Rattle.shr_audit_fresh.proofs.Common.{◌≡◌, ℕ, ◌+◌, ◌<◌, ◌≤◌, Bool, true, false, cond, length, Option, Some, None, refl, sym, ap, subst, ◌∙◌, inl, inr, arith, ◌↔◌, nat_eq, option_and_then, Decides, get, cases_lt, eq-eqb, nat_tests, Serial, Answered, Reply, Script, Report, answer_at, answers_of, command_at, reply_at, serial_of, AreLeastOfGroups, FirstCommands, HasNoFirsts, IsLeast, NotesFirst, is_group, StaysMadeAt, asks_made, is_past_group, made_shown, shows_made, makes, unmade, some_injective}
use Rattle.shr_base.specs.declared.replies.Reply.TheVariants as reply
use Rattle.shr_base.specs.declared.scripts.Command.{Command}
use Rattle.shr_base.specs.declared.scripts.Command.TheVariants.{MkGroup}
use Rattle.shr_audit_fresh.proofs.Answering.{answer_past, reply_answered, reply_none}
use Rattle.shr_audit_fresh.proofs.FirstLaws.{firsts_blank, firsts_next}

none_some : {X : Type 0} (a : X) → ◌≡◌ {A = Option X} None (Some a) → ⊥
none_some a e = cc

-- a command before one shows that the group is made
abbrev pub MadeBefore : Script → Report → ℕ → ℕ → ℕ → ℕ → Type 0
MadeBefore s r worker number group k = (k < number) × (shows_made s r (serial_of worker k) ≡ Some group)

pub group_is : (g : ℕ) (o : Option ℕ) → is_group g o ≡ true → o ≡ Some g
group_is g None e = absurd cc
group_is g (Some h) e = let same : h ≡ g = grind (arith, nat_tests) in ap (λ (n : ℕ). Some n) same

pub is_the_group : (g : ℕ) (o : Option ℕ) → o ≡ Some g → is_group g o ≡ true
is_the_group g None e = absurd cc
is_the_group g (Some h) e = eq-eqb h g (some_injective h g e)

module _ (s : Script) (r : Report) (worker : ℕ) where
  pub made_start : (firsts : FirstCommands) → HasNoFirsts firsts → AreLeastOfGroups (MadeBefore s r worker 0) firsts
  made_start firsts blank = firsts_blank (MadeBefore s r worker 0) firsts (λ g k p. (let lt : k < 0 = p.0 in absurd (omega arith))) blank

  pub made_next : (n : ℕ) (group : Option ℕ) (old new : FirstCommands) → group ≡ shows_made s r (serial_of worker n) → NotesFirst group n old new → AreLeastOfGroups (MadeBefore s r worker n) old → AreLeastOfGroups (MadeBefore s r worker (n + 1)) new
  made_next n group old new is notes = firsts_next (MadeBefore s r worker n) (MadeBefore s r worker (n + 1)) n group old new
      (λ g k p. (let lt = p.0 in let more : k < n + 1 = omega (arith, lt) in (more, p.1)))
      (λ g k q. elim (cases_lt k n) [
        | inl below ↦ inl (below, q.1)
        | inr above ↦ (let lt = q.0 in let same : k ≡ n = omega (arith, lt, above) in inr (same, is_the_group g group (is ∙ subst (λ (j : ℕ). shows_made s r (serial_of worker j) ≡ Some g) same q.1)))
      ])
      (λ g e. (let more : n < n + 1 = omega arith in (more, sym is ∙ group_is g group e))) notes

  module _ (n : ℕ) (firsts : FirstCommands) (unmade : Option ℕ) (are : AreLeastOfGroups (MadeBefore s r worker n) firsts) (says : (g : ℕ) → (unmade ≡ Some g) ↔ (reply_at r (serial_of worker n) ≡ Some (reply.NotMade g))) where
    at_least : (g k : ℕ) → k < n → shows_made s r (serial_of worker k) ≡ Some g → (o : Option ℕ) → o ≡ None → IsLeast (MadeBefore s r worker n g) o → ⊥
    at_least g k lt sh None e t = t k (lt, sh)
    at_least g k lt sh (Some m) e t = absurd (none_some m (sym e))

    pub stays_here : ((g : ℕ) → unmade ≡ Some g → get nat_eq firsts g ≡ None) → StaysMadeAt s r worker n
    stays_here none k g lt sh e = at_least g k lt sh (get nat_eq firsts g) (none g ((says g).1 e)) (are g)

    pub here_stays : StaysMadeAt s r worker n → (g : ℕ) → unmade ≡ Some g → get nat_eq firsts g ≡ None
    here_stays h g e = by (get nat_eq firsts g) refl (are g)
      where
        by : (o : Option ℕ) → get nat_eq firsts g ≡ o → IsLeast (MadeBefore s r worker n g) o → get nat_eq firsts g ≡ None
        by None is t = is
        by (Some m) is t = absurd (h m g t.0.0 t.0.1 ((says g).0 e))

    pub made_fails : (b : Bool) → Decides b ((g : ℕ) → unmade ≡ Some g → get nat_eq firsts g ≡ None) → b ≡ false → Decides false ((later : ℕ) → StaysMadeAt s r worker later)
    made_fails b d isnt = (λ t. absurd cc, λ h. absurd (let holds = d.1 (here_stays (h n)) in cc))

  pub past_made : (later : ℕ) → length (answers_of r worker) ≤ later → StaysMadeAt s r worker later
  past_made later over k g lt sh e = absurd (none_some (reply.NotMade g) (sym (reply_none r (serial_of worker later) (sym (answer_past r worker later over))) ∙ e))

-- ---- single answers

pub shown_here : (s : Script) (r : Report) (by : Serial) (c : Command) (a : Answered) (o : Option ℕ) → Some c ≡ command_at s by → Some a ≡ answer_at r by → o ≡ made_shown c a.reply → o ≡ shows_made s r by
shown_here s r by c a o here there is =
    is ∙ ap (λ (x : Option Reply). option_and_then (made_shown c) x) (sym (reply_answered r by a there))
    ∙ ap (λ (x : Option Command). option_and_then (λ d. option_and_then (made_shown d) (reply_at r by)) x) here

pub no_command_shown : (s : Script) (r : Report) (by : Serial) → None ≡ command_at s by → None ≡ shows_made s r by
no_command_shown s r by none = ap (λ (x : Option Command). option_and_then (λ d. option_and_then (made_shown d) (reply_at r by)) x) none

pub no_answer_shown : (s : Script) (r : Report) (by : Serial) (c : Command) → Some c ≡ command_at s by → None ≡ answer_at r by → None ≡ shows_made s r by
no_answer_shown s r by c here none =
    ap (λ (x : Option Reply). option_and_then (made_shown c) x) (sym (reply_none r by none))
    ∙ ap (λ (x : Option Command). option_and_then (λ d. option_and_then (made_shown d) (reply_at r by)) x) here

not_made_of : (x : Reply) (g : ℕ) → unmade x ≡ Some g → x ≡ reply.NotMade g
not_made_of (reply.NotMade h) g e = ap (λ (n : ℕ). reply.NotMade n) (some_injective h g e)
not_made_of x g e = absurd cc

of_not_made : (x : Reply) (g : ℕ) → x ≡ reply.NotMade g → unmade x ≡ Some g
of_not_made x g e = ap unmade e

pub says_so : (r : Report) (by : Serial) (a : Answered) (o : Option ℕ) → Some a ≡ answer_at r by → o ≡ unmade a.reply → (g : ℕ) → (o ≡ Some g) ↔ (reply_at r by ≡ Some (reply.NotMade g))
says_so r by a o there is g = (
  λ e. reply_answered r by a there ∙ ap (λ (x : Reply). Some x) (not_made_of a.reply g (sym is ∙ e)),
  λ e. is ∙ of_not_made a.reply g (some_injective a.reply (reply.NotMade g) (sym (reply_answered r by a there) ∙ e)),
)

-- what an answer to a command that makes a group shows, and to another
pub made_group : (c : Command) (x : Reply) (g : ℕ) → Some g ≡ makes c → made_shown (MkGroup g) x ≡ made_shown c x
made_group (MkGroup h) x g e = ap (λ (n : ℕ). made_shown (MkGroup n) x) (some_injective g h e)
made_group c x g e = absurd cc

pub found_shown : (c : Command) (x : Reply) → None ≡ makes c → cond (is_past_group x) (asks_made c) None ≡ made_shown c x
found_shown (MkGroup h) x e = absurd cc
found_shown c x e = refl

pub says_none : (r : Report) (by : Serial) → None ≡ answer_at r by → (g : ℕ) → (◌≡◌ {A = Option ℕ} None (Some g)) ↔ (reply_at r by ≡ Some (reply.NotMade g))
says_none r by none g = (λ e. absurd (none_some g e), λ e. absurd (none_some (reply.NotMade g) (sym (reply_none r by none) ∙ e)))
