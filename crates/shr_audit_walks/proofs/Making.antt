-- SPDX-License-Identifier: GPL-2.0-only
-- What a command made, in the words of the law.
use Rattle.shr_audit_walks.proofs.RoundsCommon.{◌≡◌, ℕ, ◌+◌, ◌≤◌, Bool, true, false, List, [], ◌∷◌, length, map, take, Some, refl, sym, ap, subst, ◌∙◌, arith, count_by, AllByRecursion, Serial, Reply, Command, Script, is_refused, ops_by, IsAtOrAbove, Job, job_of, Report, limit_of, parents_of, uses_at, walks_by, AreWalksOf, IsCommandMade, is_whole, over_of, AreDue, named, times_over, BeginsAsDue, IsMadeAsDue, AreRoundsOfPut, MayMake, over_at}
use Rattle.shr_base.specs.declared.replies.Reply.TheVariants as reply
use Rattle.shr_base.specs.declared.scripts.Command.TheVariants.{Put}
use Rattle.shr_model.specs.Commands.{jobs_of, rounds_from}
use Rattle.shr_model.specs.Prefixes.{IsPrefixOf}
use Rattle.shr_model.proofs.Lists.{some_same}

-- ---- the whole, or the first of it

begins_self : (w : Bool) (due : List Job) → BeginsAsDue w due due
begins_self w [] = tt
begins_self w (j ∷ js) = (refl, begins_self w js)

whole_made : (due made : List Job) → made ≡ due → IsMadeAsDue true due made
whole_made due made e = subst (λ (xs : List Job). IsMadeAsDue true due xs) (sym e) (record { begins = begins_self true due; few = omega arith })

made_whole : (due made : List Job) → BeginsAsDue true due made → length made ≤ length due → made ≡ due
made_whole [] [] b few = refl
made_whole [] (m ∷ ms) b few = absurd (omega arith)
made_whole (j ∷ js) [] b few = absurd (let e : ◌≡◌ {A = Bool} true false = b in cc)
made_whole (j ∷ js) (m ∷ ms) b few = let rest = made_whole js ms b.1 (omega arith) in let first = b.0 in cc

first_made : (due made : List Job) → IsPrefixOf made due → BeginsAsDue false due made × (length made ≤ length due)
first_made [] [] e = (tt, omega arith)
first_made [] (m ∷ ms) e = absurd (let x : ◌≡◌ {A = List Job} [] (m ∷ ms) = e in cc)
first_made (j ∷ js) [] e = (refl, omega arith)
first_made (j ∷ js) (m ∷ ms) e =
    let whole : j ∷ take (length ms) js ≡ m ∷ ms = e in
    let first : m ≡ j = cc in
    let more = first_made js ms (let rest : take (length ms) js ≡ ms = cc in rest) in
    ((first, more.0), let l = more.1 in omega (arith, l))

made_first : (due made : List Job) → BeginsAsDue false due made → length made ≤ length due → IsPrefixOf made due
made_first [] [] b few = refl
made_first [] (m ∷ ms) b few = absurd (omega arith)
made_first (j ∷ js) [] b few = refl
made_first (j ∷ js) (m ∷ ms) b few = let rest : take (length ms) js ≡ ms = made_first js ms b.1 (omega arith) in let first = b.0 in let whole : j ∷ take (length ms) js ≡ m ∷ ms = cc in whole

pub may_made : (x : Reply) (due made : List Job) → IsMadeAsDue (is_whole x) due made → MayMake x due made
may_made reply.Memory due made h = made_first due made h.begins h.few
may_made (reply.WalkMemory freed) due made h = made_first due made h.begins h.few
may_made x due made h = made_whole due made h.begins h.few

pub made_may : (x : Reply) (due made : List Job) → MayMake x due made → IsMadeAsDue (is_whole x) due made
made_may reply.Memory due made h = let f = first_made due made h in record { begins = f.0; few = f.1 }
made_may (reply.WalkMemory freed) due made h = let f = first_made due made h in record { begins = f.0; few = f.1 }
made_may x due made h = whole_made due made h

-- ---- the group that an answer names

over_named : (x : Reply) (h : ℕ) → over_at h x ≡ named (over_of x) h
over_named (reply.Over group operation usage) h = refl
over_named x h = refl

is_over : (x : Reply) (g : ℕ) → over_of x ≡ Some g → (operation : ℕ) × ((usage : ℕ) × (x ≡ reply.Over g operation usage))
is_over (reply.Over group operation usage) g e = (operation, (usage, ap (λ (n : ℕ). reply.Over n operation usage) (some_same group g e)))
is_over x g e = absurd cc

-- ---- a command

module _ (s : Script) (r : Report) (by : Serial) (refused : List ℕ) (counts : (h : ℕ) → times_over h refused ≡ count_by (is_refused (limit_of s h)) (ops_by by (uses_at r h))) where
  rounds_due : (group : ℕ) (x : Reply) (rounds : List ℕ) → AreRoundsOfPut s r by group x rounds → AreDue (over_of x) refused rounds
  rounds_due group x rounds h = record {
    few = h.few;
    refusals = λ g. ap (λ (n : ℕ). times_over g rounds + n) (sym (over_named x g)) ∙ h.refusals g ∙ sym (counts g);
    all = λ g e. let o = is_over x g e in h.all g o.0 o.1.0 o.1.1;
  }

  due_rounds : (group : ℕ) (x : Reply) (rounds : List ℕ) → AreDue (over_of x) refused rounds → AllByRecursion (λ h. IsAtOrAbove (parents_of s) h group) rounds → AreRoundsOfPut s r by group x rounds
  due_rounds group x rounds h above = record {
    few = h.few;
    above = above;
    refusals = λ g. ap (λ (n : ℕ). times_over g rounds + n) (over_named x g) ∙ h.refusals g ∙ counts g;
    all = λ g operation usage e. h.all g (ap over_of e);
  }

  abbrev walks : List Job
  walks = map job_of (walks_by r by)

  -- a command that made the walks that were due made those of the law
  pub made_walks : (c : Command) (x : Reply) → IsCommandMade (parents_of s) s.nodes refused c x walks → AreWalksOf s r by c x
  made_walks (Put at key value) x h = record {
    rounds = h.rounds;
    refused = due_rounds at.group x h.rounds h.due h.above;
    made = may_made x (rounds_from (parents_of s) s.nodes 12 h.rounds) walks h.made;
  }
  made_walks c x h = record { rounds = []; refused = refl; made = may_made x (jobs_of (parents_of s) s.nodes [] c) walks h }

  pub walks_made : (c : Command) (x : Reply) → AreWalksOf s r by c x → IsCommandMade (parents_of s) s.nodes refused c x walks
  walks_made (Put at key value) x h = record {
    rounds = h.rounds;
    due = rounds_due at.group x h.rounds h.refused;
    above = h.refused.above;
    made = made_may x (rounds_from (parents_of s) s.nodes 12 h.rounds) walks h.made;
  }
  walks_made c x h = made_may x (jobs_of (parents_of s) s.nodes [] c) walks (subst (λ (rounds : List ℕ). MayMake x (jobs_of (parents_of s) s.nodes rounds c) walks) h.refused h.made)
