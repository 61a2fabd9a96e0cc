-- SPDX-License-Identifier: GPL-2.0-only
-- What a lookup of an id that was met finds.
use Rattle.shr_registry.proofs.Common.{◌≡◌, ℕ, ◌%◌, true, cond, eqb, List, [], ◌∷◌, ◌++◌, length, sym, ap, subst, ◌∙◌, eq-eqb, ⊎_elim, append_assoc, arith, nat_tests, Some, None, Option, Contains, Contains-push, PoolEntry, Spent, phase_of, View, Shape, IsMet, with_word, Gained, nothing, Adds, FindAnswer, Brings, Loads, IsFree, IsHeldBy, FindGives, FindsCache, FindWorn, IsDatedBy, Contains-append_right}
use Rattle.shr_base.specs.declared.replies.Spent.TheVariants as spent
use Rattle.shr_core.specs.declared.again.Again.{Again}
use Rattle.shr_core.specs.Again.{with_again, FindsAgain, KnowsNone}
use Rattle.shr_core.proofs.Gains.{of_again}
use Rattle.shr_registry.specs.declared.answers.FindAnswer.TheVariants as find
use Rattle.shr_registry.proofs.Searches.{loads_none, loads_word}
use Rattle.shr_registry.proofs.Adds.{brings_then, brings_loads}

-- ---- what was met with the pool in hand
-- a cache that was found by a journal is met by it
pub met_by : (shape : Shape) (v w : View) (pool : List PoolEntry) (decl gives id number entry phase : ℕ) (answer : FindAnswer) → FindGives shape v decl pool gives answer w → answer ≡ find.Held id number entry → phase ≡ phase_of id pool → IsMet shape pool (record { decl = decl; id = id; phase = phase; entry = entry })
met_by shape v w pool decl gives id number entry phase answer all is same = let f : FindsCache shape v decl pool gives id number entry w = subst (λ (a : FindAnswer). FindGives shape v decl pool gives a w) is all in let live = f.live.live in
    let one : phase_of id pool % 3 ≡ 1 = grind (arith, nat_tests) in record {
      near = f.live.near;
      phase = same;
      live = omega (arith, same, one);
      named = sym f.live.named;
      after = f.after;
    }

-- ---- it found nothing
-- what it loaded, if anything
pub loads_nothing : (v u : View) → KnowsNone v u → Loads v u
loads_nothing v u none = ⊎_elim (λ e. subst (Loads v) (sym e) (loads_none v)) (λ t. subst (Loads v) (sym t.2) (loads_word v t.0 t.1)) none

module _ (shape : Shape) (v u w : View) (decl : ℕ) (pool : List PoolEntry) (a : Loads v u) where
  worn_since : (s : Spent) → FindWorn shape u decl pool s w → FindWorn shape v decl pool s w
  worn_since (spent.Lookups id seen) f = let h = f.loads in record {
    live = f.live;
    most = f.most;
    first = f.first;
    shown = f.shown;
    loads = record { words = a.loaded.0 ++ h.words; since = h.since ∙ (ap (λ l. l ++ h.words) a.loaded.1 ∙ append_assoc v.claims.loaded a.loaded.0 h.words); shown = Contains-append_right a.loaded.0 h.words (record { id = id; word = f.first }) h.shown };
  }
  worn_since (spent.List place entries items) f = f
  worn_since (spent.Charges charges uncharges) f = f

  -- what `find` answered after loads it answers with them
  pub find_since : (answer : FindAnswer) → FindGives shape u decl pool 1 answer w → FindGives shape v decl pool 1 answer w
  find_since (find.Held id number entry) f = record {
    live = f.live;
    after = f.after;
    registered = f.registered;
    began = f.began;
    first = f.first;
    left = f.left;
    shows = f.shows;
    holds = f.holds;
    gains = brings_then v u w nothing (record nothing { attempts = record { id = id; number = number; held = Some decl } ∷ []; gives = 1 }) (brings_loads v u a) f.gains;
  }
  find_since (find.NoCache entry) f = record { missing = f.missing; after = f.after; free = f.free; gains = brings_then v u w nothing (record nothing { gives = 1 }) (brings_loads v u a) f.gains }
  find_since (find.Worn s) f = record { worn = worn_since s f.worn; free = f.free; gains = brings_then v u w nothing (record nothing { gives = 1 }) (brings_loads v u a) f.gains }

-- ---- it found the id
module _ (shape : Shape) (v w : View) (decl : ℕ) (again : Again) (free : IsFree v) (f : FindsAgain shape v decl again w) where
  abbrev z : View
  z = with_word v again.id f.first

  yes : eqb (f.found.phase % 3) 1 ≡ true
  yes = eq-eqb (f.found.phase % 3) 1 f.live

  abbrev tried : ℕ → ℕ → Gained
  tried x y = record nothing { attempts = record { id = again.id; number = x; held = Some y } ∷ []; gives = 1 }

  drawn : Brings z (with_again z again.id f.found) (tried again.number decl)
  drawn = let g : Option ℕ → ℕ → Gained = λ o n. record nothing { attempts = record { id = again.id; number = n; held = o } ∷ []; gives = 1 } in
      let met : cond (eqb (f.found.phase % 3) 1) (Some f.found.decl) None ≡ Some decl = ap {B = Option ℕ} (λ b. cond b (Some f.found.decl) None) yes ∙ ap {B = Option ℕ} (λ (x : ℕ). Some x) f.named in
      record {
        words = [];
        adds = subst (λ n. Adds z (with_again z again.id f.found) (g (Some decl) n)) f.drawn (subst (λ (o : Option ℕ). Adds z (with_again z again.id f.found) (g o f.found.lookups)) met (of_again z again.id f.found free.held));
        owed = λ k h. h;
      }

  gains : Brings v (with_again z again.id f.found) (tried again.number decl)
  gains = brings_then v z (with_again z again.id f.found) nothing (tried again.number decl) (brings_loads v z (loads_word v again.id f.first)) drawn

  holds : IsHeldBy (with_again z again.id f.found) again.id again.number decl
  holds = record {
    held = ap {B = Option ℕ} (λ b. cond b (Some again.id) v.claims.held) yes;
    drawn = ap (λ b. cond b f.found.lookups v.claims.number) yes ∙ f.drawn;
    named = ap (λ b. cond b f.found.decl v.claims.decl) yes ∙ f.named;
    owner = free.owner;
  }

  -- the answer is by what the seat knew
  pub found_again : FindGives shape v decl w.turns.known 1 (find.Held again.id again.number again.entry) w
  found_again = subst (λ (x : View). FindGives shape v decl x.turns.known 1 (find.Held again.id again.number again.entry) x) (sym f.step) record {
    live = record { near = f.near; live = f.lives.live; named = sym f.lives.named };
    after = f.after;
    registered = f.lives.registered;
    began = f.lives.began;
    first = f.first;
    left = f.left;
    shows = Contains-push v.claims.loaded (record { id = again.id; word = f.first });
    holds = holds;
    gains = gains;
  }

  -- the id is dated by it
  pub dated_again : IsDatedBy (find.Held again.id again.number again.entry) w
  dated_again = subst (λ (x : View). IsDatedBy (find.Held again.id again.number again.entry) x) (sym f.step)
      (subst (λ n. Contains (v.turns.dated ++ record { id = again.id; number = f.found.lookups; entries = length v.turns.known } ∷ []) (record { id = again.id; number = n; entries = again.entry })) f.drawn
      (subst (λ n. Contains (v.turns.dated ++ record { id = again.id; number = f.found.lookups; entries = length v.turns.known } ∷ []) (record { id = again.id; number = f.found.lookups; entries = n })) (sym f.after)
      (Contains-push v.turns.dated (record { id = again.id; number = f.found.lookups; entries = length v.turns.known }))))
