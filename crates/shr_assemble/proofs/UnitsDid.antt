-- SPDX-License-Identifier: GPL-2.0-only
-- What a command did at the pools of units, in the words of the law on pools.
use Rattle.shr_assemble.proofs.Common.{◌≡◌, ℕ, ◌<◌, ◌≤◌, Bool, true, false, not, ◌&&◌, cond, List, [], ◌∷◌, length, sym, refl, ap, subst, ◌∙◌, arith, ne_eqb, Option, Some, None, ◌==◌, Place, Serial, Answered, Reply, Command, Put, On, Shrink, Balance, Offline, MkGroup, Register, Unregister, Isolate, Release, Grab, PoolDecl, Script, Family, IsCommandWithin, content_of, GrabAnswer, ReleaseAnswer, PlainState, worker_units_place, PlainGives, IsReply, IsOther, DidUnitsOf, ⊤, IsPoolCommandWithin, has_pools, is_walked, is_due, WalksIf, served, PlainJob, one_plain, plain_jobs, plain_due, units_release_reply, units_grab_reply, DidPoolWalks}
use Rattle.shr_base.specs.declared.replies.Reply.TheVariants as reply
use Rattle.shr_script.specs.Lines.{serves_pools}
use Rattle.shr_plain.specs.declared.answers.GrabAnswer.TheVariants as grab
use Rattle.shr_plain.specs.declared.answers.ReleaseAnswer.TheVariants as release
use Rattle.shr_worker.specs.Replies as worker
use Rattle.shr_lawful.proofs.UnitPooling.{settings_length}
use Rattle.shr_lawful.proofs.UnitStepKinds.{none_due}

-- ---- which replies are of pools
abbrev pub IsElsewhere : Command → Type 0
IsElsewhere (Release node pool n) = ⊥
IsElsewhere (Grab node pool) = ⊥
IsElsewhere c = ⊤

module _ (parents : List ℕ) (family : Family) (by : Serial) where
  -- no other command has one
  pub other_reply : (c : Command) (found : Option ℕ) (x : Reply) → IsElsewhere c → IsReply parents family by c found x → IsOther x
  other_reply (Release node pool units) found x is row = absurd is
  other_reply (Grab node pool) found x is row = absurd is
  other_reply c None (reply.Released p n e) is row = row
  other_reply c None (reply.Full p n e f) is row = row
  other_reply c None (reply.Grabbed p n e) is row = row
  other_reply c None (reply.Bare p n e) is row = row
  other_reply c (Some id) (reply.Released p n e) is row = row
  other_reply c (Some id) (reply.Full p n e f) is row = row
  other_reply c (Some id) (reply.Grabbed p n e) is row = row
  other_reply c (Some id) (reply.Bare p n e) is row = row
  other_reply c found x is row = tt

-- ---- the walk that is due
same_release : (p : Place) (a : ReleaseAnswer) → worker.release_reply p a ≡ units_release_reply p a
same_release p (release.Full entries free) = refl
same_release p a = refl

same_grab : (p : Place) (a : GrabAnswer) → worker.grab_reply p a ≡ units_grab_reply p a
same_grab p (grab.Worn x) = refl
same_grab p a = refl

balance_jobs : (node priority : ℕ) (nofs : Bool) (x : Reply) → plain_jobs (Balance node priority nofs) x ≡ cond (is_walked x) (one_plain node priority) []
balance_jobs node priority nofs (reply.Walked freed) = refl
balance_jobs node priority nofs x = refl

shrink_jobs : (group node priority : ℕ) (nofs : Bool) (x : Reply) → plain_jobs (Shrink group node priority nofs) x ≡ cond ((group == 0) && is_walked x) (one_plain node priority) []
shrink_jobs group node priority nofs (reply.Walked freed) = elim (group == 0) as (λ (b : Bool). cond b (one_plain node priority) [] ≡ cond (b && true) (one_plain node priority) []) [ true ↦ refl | false ↦ refl ]
shrink_jobs group node priority nofs x = elim (group == 0) as (λ (b : Bool). ◌≡◌ {A = List PlainJob} [] (cond (b && false) (one_plain node priority) [])) [ true ↦ refl | false ↦ refl ]

-- what is due in a script with these pools
abbrev with_pools : Script → List PoolDecl → Script
with_pools s ds = record s { pools = record s.pools { items = ds } }

due_if : (s : Script) (ds : List PoolDecl) (c : Command) (x : Reply) → plain_due (with_pools s ds) c x ≡ cond (not (length ds == 0)) (plain_jobs c x) []
due_if s [] c x = refl
due_if s (d ∷ ds) c x = ap (λ (b : Bool). cond (not b) (plain_jobs c x) []) (sym (ne_eqb (length (d ∷ ds)) 0 (λ e. omega (arith, e))))

cond_both : (a b : Bool) (jobs : List PlainJob) → cond a (cond b jobs []) [] ≡ cond (a && b) jobs []
cond_both true b jobs = refl
cond_both false b jobs = refl

cond_swap : (a b c : Bool) (jobs : List PlainJob) → cond a (cond (b && c) jobs []) [] ≡ cond (b && (a && c)) jobs []
cond_swap true true c jobs = refl
cond_swap false true c jobs = refl
cond_swap a b c jobs = refl

balance_due : (s : Script) (node priority : ℕ) (nofs : Bool) (x : Reply) → plain_due s (Balance node priority nofs) x ≡ cond (is_due s x) (one_plain node priority) []
balance_due s node priority nofs x = due_if s s.pools.items (Balance node priority nofs) x ∙ (ap (λ l. cond (has_pools s) l []) (balance_jobs node priority nofs x) ∙ cond_both (has_pools s) (is_walked x) (one_plain node priority))

shrink_due : (s : Script) (group node priority : ℕ) (nofs : Bool) (x : Reply) → plain_due s (Shrink group node priority nofs) x ≡ cond ((group == 0) && is_due s x) (one_plain node priority) []
shrink_due s group node priority nofs x = due_if s s.pools.items (Shrink group node priority nofs) x ∙ (ap (λ l. cond (has_pools s) l []) (shrink_jobs group node priority nofs x) ∙ cond_swap (has_pools s) (group == 0) (is_walked x) (one_plain node priority))

module _ (s : Script) (by : Serial) (t u : PlainState) where
  walks_if : (b : Bool) (node priority : ℕ) → node < s.nodes → WalksIf b s by node priority t u → DidPoolWalks s by (cond b (one_plain node priority) []) t u
  walks_if true node priority low h = (refl, record { node = low; answer = h.answer; gives = h.walked })
  walks_if false node priority low h = h

  still : (c : Command) (x : Reply) → plain_jobs c x ≡ [] → u ≡ t → DidPoolWalks s by (plain_due s c x) t u
  still c x none e = subst (λ l. DidPoolWalks s by l t u) (sym (none_due s c x none)) e

  -- a command's clause at the pools, in the words of the law
  pub did_units : (c : Command) (a : Answered) → IsCommandWithin (content_of s) c → (IsElsewhere c → IsOther a.reply) → PlainGives s by c a t u → DidUnitsOf s by c a.reply t u
  did_units (Put to key value) a within other g = (other tt, still (Put to key value) a.reply refl g)
  did_units (On to key act) a within other g = (other tt, still (On to key act) a.reply refl g)
  did_units (Shrink group node priority nofs) a within other g = (other tt, subst (λ l. DidPoolWalks s by l t u) (sym (shrink_due s group node priority nofs a.reply)) (walks_if ((group == 0) && is_due s a.reply) node priority within.1.on_node g))
  did_units (Balance node priority nofs) a within other g = (other tt, subst (λ l. DidPoolWalks s by l t u) (sym (balance_due s node priority nofs a.reply)) (walks_if (is_due s a.reply) node priority within.on_node g))
  did_units (Offline group) a within other g = (other tt, still (Offline group) a.reply refl g)
  did_units (MkGroup group) a within other g = (other tt, still (MkGroup group) a.reply refl g)
  did_units (Register decl) a within other g = (other tt, still (Register decl) a.reply refl g)
  did_units (Unregister decl) a within other g = (other tt, still (Unregister decl) a.reply refl g)
  did_units (Isolate to budget) a within other g = (other tt, still (Isolate to budget) a.reply refl g)
  did_units (Release node pool n) a within other g = let w = served serves_pools (IsPoolCommandWithin (content_of s) node pool × (1 ≤ n) × (n ≤ 20000)) within in record {
    there = record { pool = (let low = w.0.in_pool in let same = settings_length s in omega (arith, low, same)); node = w.0.on_node };
    answer = g.answer;
    told = ap (λ (z : Answered). z.reply) g.told ∙ same_release (worker_units_place s pool node) g.answer;
    gives = g.released;
  }
  did_units (Grab node pool) a within other g = let w = served serves_pools (IsPoolCommandWithin (content_of s) node pool) within in record {
    there = record { pool = (let low = w.in_pool in let same = settings_length s in omega (arith, low, same)); node = w.on_node };
    answer = g.answer;
    told = ap (λ (z : Answered). z.reply) g.told ∙ same_grab (worker_units_place s pool node) g.answer;
    gives = g.grabbed;
  }
