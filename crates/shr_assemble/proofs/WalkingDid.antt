-- SPDX-License-Identifier: GPL-2.0-only
-- A command that made walks alone did what the report asks.
use Rattle.shr_assemble.proofs.Common.{◌≡◌, ℕ, ◌<◌, ◌≤◌, ◌⊎◌, inl, [], length, refl, sym, ap, subst, ◌∙◌, arith, cond, Option, Some, None, option_and_then, sum_by, All, AllPairs, AllByRecursion, append-nil, All-nil, none-some, Entry, Scan, Object, Place, Serial, Answered, Reply, Command, Carry, decl_named, asks_online, Family, is_below, is_place, Each, Each-none, Made, Turn, charged, MayBeOffline, pool_told, pool_made, parents_of, cited_by, AreNotFalling, IsBefore, objects_freed, WorkerState, Work, Shared, unfound, IsCausedBy, DidCarry, Did, IsReplyTo, MayMakeEntry, KnowsOnline, IsEntryOf, MeetsGroups, IsTurnOf, Step, BringsWork, AreWalksFor}
use Rattle.shr_charge.specs.Views as charge
use Rattle.shr_assemble.proofs.WalkingWell.{IsTableOf}
use Rattle.shr_assemble.proofs.WalkingGives.{Freed}
use Rattle.shr_assemble.proofs.WalkingCharges.{walks_charge}
use Rattle.shr_assemble.proofs.Filling.{set_walked}
use Rattle.shr_assemble.proofs.WalkingSteps.{OnlyScan, step_of, Walked}

pub may_make : (x : Shared) (by : Serial) (c : Option Command) (a : Answered) (s t : WorkerState) (w : Work) (m : Made) (e : Entry) → OnlyScan by (length s.walks) w.walks m e → MayMakeEntry x.script (step_of x.script by c a s t w) m e
may_make x by c a s t w m (Scan worker n asked policy visits freed stopped) h = inl (record { own = h.own; index = h.index; number = h.number; walk = h.walk; there = h.there; passes = h.passes })
may_make x by c a s t w m e h = absurd h

-- a step with its work
pub record Stepping (x : Shared) (by : Serial) (c : Option Command) (a : Answered) (s t : WorkerState) : Type 0 where
  pub work : Work
  pub does : BringsWork s t work
  pub did : Did x.script (step_of x.script by c a s t work)

-- what the command and its reply are, beside the walks
pub record IsOfWalks (x : Shared) (by : Serial) (c : Option Command) (r : Reply) (s t : WorkerState) (w : Work) : Type 0 where
  pub free : (g : ℕ) → charged (parents_of x.script) g c (Some r) ≡ 0
  pub no_decl : option_and_then decl_named c ≡ None
  pub reply : (family : Family) → IsReplyTo (parents_of x.script) family by c None r
  pub no_cite : cited_by r ≡ None
  pub no_told : pool_told r ≡ []
  pub no_made : pool_made r ≡ []
  pub asked : AreWalksFor x.script (step_of x.script by c (unfound r) s t w) c
  pub online : (group : ℕ) → option_and_then asks_online c ≡ Some group → 0 < group → MayBeOffline r ⊎ KnowsOnline s.tree group
  pub meets : MeetsGroups x.script (step_of x.script by c (unfound r) s t w)
  pub cause : IsCausedBy x.script (step_of x.script by c (unfound r) s t w) r

pub walks_did : (x : Shared) → IsTableOf x → (by : Serial) (c : Option Command) (r : Reply) (s t : WorkerState) (w : Work) → Walked x.script by c (unfound r) s t w → Freed x by w.core.made w.ops
    → AllByRecursion (λ (o : Object). o.birth < length (parents_of x.script)) (objects_freed w.core.made) → w.charges ≡ 0 → w.uncharges ≡ length (objects_freed w.core.made) → IsOfWalks x by c r s t w → Did x.script (step_of x.script by c (unfound r) s t w)
walks_did x table by c r s t w walked freed born charges uncharges is = record {
  entries = record {
    each = λ j m e. may_make x by c (unfound r) s t w m m.entry (walked.scans j m e);
    reply = λ family stands. is.reply family;
    sets = set_walked w.core.made w.walks w.core.sets walked.sets;
    cited = λ at e. absurd (none-some at (sym is.no_cite ∙ e));
  };
  lookups = record {
    numbers = walked.numbers ∙ sym (append-nil _);
    found = λ d f e. absurd (none-some d (sym is.no_decl ∙ e));
  };
  walks = record {
    each = walked.each;
    asked = is.asked;
    seen = walked.seen;
    maps = walked.maps;
    cleared = walked.cleared;
    fresh = walked.fresh;
    set = walked.set;
  };
  charges = walks_charge x table by c (unfound r) s t w w.walks is.free freed born charges uncharges walked.scans;
  moves = record {
    taken = λ p. let z : sum_by (taken_by p) w.carries ≡ 0 = ap (sum_by (taken_by p)) walked.carries in omega (arith, walked.taken p, z);
    given = λ p. let z : sum_by (given_by p) w.carries ≡ 0 = ap (sum_by (given_by p)) walked.carries in omega (arith, walked.given p, z);
    carries = subst (All (DidCarry x.script step)) (sym walked.carries) (All-nil (DidCarry x.script step));
    rise = subst (AllPairs (λ (a b : Carry). IsBefore a.place.id a.place.node b.place.id b.place.node)) (sym walked.carries) (no_pairs (λ (a b : Carry). IsBefore a.place.id a.place.node b.place.id b.place.node));
    handed = [];
    places = inl refl;
    noted = walked.carries;
    steps = walked.steps ∙ sym (append-nil _);
  };
  pool = record {
    turns = subst (Each (λ (k : Turn). IsTurnOf t.core.turns.known k.entry k.number r)) (sym walked.turns) (Each-none (λ (k : Turn). IsTurnOf t.core.turns.known k.entry k.number r));
    later = subst (Each (λ (k : Turn). length s.core.turns.known ≤ k.number)) (sym walked.turns) (Each-none (λ (k : Turn). length s.core.turns.known ≤ k.number));
    seen = subst (AllByRecursion (λ n. (length s.core.turns.known ≤ n) × (n ≤ length t.core.turns.known))) (sym is.no_told) tt;
    rise = subst AreNotFalling (sym is.no_told) (λ k d lt. absurd (omega (arith, lt)));
    made = subst (AllByRecursion (λ n. n < length t.core.turns.known)) (sym is.no_made) tt;
  };
  tree = record {
    each = subst (All (λ (m : charge.TreeMade). (length s.tree.known ≤ m.number) × IsEntryOf x.script step m.number m.entry)) (sym walked.tree) (All-nil (λ (m : charge.TreeMade). (length s.tree.known ≤ m.number) × IsEntryOf x.script step m.number m.entry));
    online = is.online;
    meets = is.meets;
  };
  cause = is.cause;
} where
  step : Step
  step = step_of x.script by c (unfound r) s t w

  taken_by : Place → Carry → ℕ
  taken_by p k = cond (is_place p k.place) k.amount 0

  given_by : Place → Carry → ℕ
  given_by p k = cond (is_below (parents_of x.script) p k.place) k.amount 0

  no_pairs : (R : Carry → Carry → Type 0) → AllPairs R []
  no_pairs R = λ i j d a b. absurd (omega (arith, b))
