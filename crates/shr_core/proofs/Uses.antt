-- SPDX-License-Identifier: GPL-2.0-only
-- The seats that use an id, event by event.
use Rattle.shr_core.proofs.Common.{◌≡◌, ℕ, ◌≢◌, Bool, true, false, cond, eqb, List, [], ◌∷◌, ◌++◌, sym, refl, ap, ◌∙◌, arith, eq-eqb, ne_eqb, append-nil, dite, ℕ_discrete, Deed, by_seat, state_after, only, times, without, only_yes, only_no, times-push_same, times-push_other, times-without_same, times-without_other, state_after_push, View, Event, counted, made, looked, loaded, turned, put_back, raised, cleared, mapped, Holders, no_holders, finder, users_after, users_next, last_users, ids_of, noted, with_put, put_events, IsUsing}
use Rattle.std.specs.Prelude.{Some, None, Option as Maybe}

-- an event changes what its own seat alone uses
pub users_else : (u : Holders) (seat j i : ℕ) (e : Event) → j ≢ seat → times j (users_after u seat e i) ≡ times j (u i)
users_else u seat j i (counted x) n = refl
users_else u seat j i (made x) n = refl
users_else u seat j i (looked x) n = dite (ℕ_discrete i x.id)
    (λ e. ap (λ b. times j (cond b (u i ++ finder x.held seat) (u i))) (eq-eqb i x.id e) ∙ found x.held)
    (λ m. ap (λ b. times j (cond b (u i ++ finder x.held seat) (u i))) (ne_eqb i x.id m))
  where
    found : (held : Maybe ℕ) → times j (u i ++ finder held seat) ≡ times j (u i)
    found None = ap (times j) (append-nil (u i))
    found (Some decl) = times-push_other j seat (u i) (λ s. n (sym s))
users_else u seat j i (loaded x) n = refl
users_else u seat j i (turned x) n = refl
users_else u seat j i (put_back k) n = dite (ℕ_discrete i k)
    (λ e. ap (λ b. times j (cond b (without seat (u i)) (u i))) (eq-eqb i k e) ∙ times-without_other j seat (u i) n)
    (λ m. ap (λ b. times j (cond b (without seat (u i)) (u i))) (ne_eqb i k m))
users_else u seat j i (raised k) n = refl
users_else u seat j i (cleared k) n = refl
users_else u seat j i (mapped x) n = refl

-- an id, if there is one, is itself and no other
pub one_id : (i k : ℕ) → times i (k ∷ []) ≡ only i k
one_id i k = omega arith

-- a seat that used no id uses the one that it looked up where it was live, and else none
pub users_looked : (u : Holders) (seat i decl j : ℕ) (live : Bool) (held : Maybe ℕ) → held ≡ None → times seat (u j) ≡ times j (ids_of held)
    → times seat (cond (eqb j i) (u j ++ finder (cond live (Some decl) None) seat) (u j)) ≡ times j (ids_of (cond live (Some i) held))
users_looked u seat i decl j live held none mine = dite (ℕ_discrete j i)
    (λ e. ap (λ b. times seat (cond b (u j ++ finder (cond live (Some decl) None) seat) (u j))) (eq-eqb j i e) ∙ here e live)
    (λ n. ap (λ b. times seat (cond b (u j ++ finder (cond live (Some decl) None) seat) (u j))) (ne_eqb j i n) ∙ (mine ∙ (ap (λ (o : Maybe ℕ). times j (ids_of o)) none ∙ other n live)))
  where
    zero_used : times seat (u j) ≡ 0
    zero_used = mine ∙ ap (λ (o : Maybe ℕ). times j (ids_of o)) none

    here : j ≡ i → (b : Bool) → times seat (u j ++ finder (cond b (Some decl) None) seat) ≡ times j (ids_of (cond b (Some i) held))
    here e true = omega (arith, times-push_same seat (u j), zero_used, only_yes j i (sym e))
    here e false = ap (times seat) (append-nil (u j)) ∙ mine

    other : j ≢ i → (b : Bool) → 0 ≡ times j (ids_of (cond b (Some i) held))
    other n true = omega (arith, only_no j i (λ e. n (sym e)))
    other n false = sym (ap (λ (o : Maybe ℕ). times j (ids_of o)) none)

-- a seat that gives back its reference to an id uses none
pub users_put : (u : Holders) (seat i j : ℕ) → (j ≢ i → times seat (u j) ≡ 0) → times seat (cond (eqb j i) (without seat (u j)) (u j)) ≡ 0
users_put u seat i j others = dite (ℕ_discrete j i)
    (λ e. ap (λ b. times seat (cond b (without seat (u j)) (u j))) (eq-eqb j i e) ∙ times-without_same seat (u j))
    (λ n. ap (λ b. times seat (cond b (without seat (u j)) (u j))) (ne_eqb j i n) ∙ others n)

-- what is nowhere in a list makes it empty
pub nowhere : (xs : List ℕ) → ((j : ℕ) → times j xs ≡ 0) → xs ≡ []
nowhere [] none = refl
nowhere (x ∷ xs) none = absurd (omega (arith, none x, only_yes x x refl))

-- ---- by what one view did
-- it uses what it used before where what it did more changes none of it
pub using_still : (v w : View) (did : List Event) → w.seat ≡ v.seat → w.did ≡ v.did ++ by_seat v.seat did → w.claims.held ≡ v.claims.held → ((u : Holders) → state_after users_next u (by_seat v.seat did) ≡ u) → IsUsing v → IsUsing w
using_still v w did seat more held none is i =
    let both : last_users w.did ≡ last_users v.did = ap last_users more ∙ (state_after_both no_holders v.did (by_seat v.seat did) ∙ none (last_users v.did)) in
    ap (λ (n : ℕ). times n (last_users w.did i)) seat ∙ (ap (λ (u : Holders). times v.seat (u i)) both ∙ (is i ∙ ap (λ (o : Maybe ℕ). times i (ids_of o)) (sym held)))
  where
    state_after_both : (u : Holders) (l m : List (Deed Event)) → state_after users_next u (l ++ m) ≡ state_after users_next (state_after users_next u l) m
    state_after_both u [] m = refl
    state_after_both u (d ∷ l) m = state_after_both (users_next u d) l m

-- one event more
push : (v : View) (e : Event) → last_users (noted v e) ≡ users_after (last_users v.did) v.seat e
push v e = state_after_push users_next no_holders v.did (record { seat = v.seat; act = e })

-- a lookup where nothing was held
pub using_looked : (v w : View) (i decl number : ℕ) (live : Bool) → v.claims.held ≡ None → w.seat ≡ v.seat → w.did ≡ noted v (looked (record { id = i; number = number; held = cond live (Some decl) None })) → w.claims.held ≡ cond live (Some i) v.claims.held → IsUsing v → IsUsing w
using_looked v w i decl number live none seat did held is j =
    ap (λ (n : ℕ). times n (last_users w.did j)) seat ∙ (ap (λ (u : Holders). times v.seat (u j)) (ap last_users did ∙ push v (looked (record { id = i; number = number; held = cond live (Some decl) None })))
    ∙ (users_looked (last_users v.did) v.seat i decl j live v.claims.held none (is j) ∙ ap (λ (o : Maybe ℕ). times j (ids_of o)) (sym held)))

-- a put
pub using_put : (v : View) → IsUsing v → IsUsing (with_put v)
using_put v is = by_reference v.claims.held v.claims.probe refl refl where
  after : (k : ℕ) → ((j : ℕ) → j ≢ k → times v.seat (last_users v.did j) ≡ 0) → (j : ℕ) → times v.seat (last_users (v.did ++ by_seat v.seat (put_back k ∷ [])) j) ≡ 0
  after k others j = ap (λ (u : Holders). times v.seat (u j)) (push v (put_back k)) ∙ users_put (last_users v.did) v.seat k j (others j)

  by_reference : (held probe : Maybe ℕ) → v.claims.held ≡ held → v.claims.probe ≡ probe → (j : ℕ) → times v.seat (last_users (v.did ++ by_seat v.seat (put_events v.claims.held v.claims.probe)) j) ≡ 0
  by_reference (Some k) probe a b j = ap (λ (o : Maybe ℕ). times v.seat (last_users (v.did ++ by_seat v.seat (put_events o v.claims.probe)) j)) a
      ∙ after k (λ i n. is i ∙ (ap (λ (o : Maybe ℕ). times i (ids_of o)) a ∙ omega (arith, only_no i k (λ e. n (sym e))))) j
  by_reference None (Some k) a b j = ap (λ (o : Maybe ℕ). times v.seat (last_users (v.did ++ by_seat v.seat (put_events o v.claims.probe)) j)) a
      ∙ (ap (λ (o : Maybe ℕ). times v.seat (last_users (v.did ++ by_seat v.seat (put_events None o)) j)) b ∙ after k (λ i n. is i ∙ ap (λ (o : Maybe ℕ). times i (ids_of o)) a) j)
  by_reference None None a b j = ap (λ (o : Maybe ℕ). times v.seat (last_users (v.did ++ by_seat v.seat (put_events o v.claims.probe)) j)) a
      ∙ (ap (λ (o : Maybe ℕ). times v.seat (last_users (v.did ++ by_seat v.seat (put_events None o)) j)) b
      ∙ (ap (λ (l : List (Deed Event)). times v.seat (last_users l j)) (append-nil v.did) ∙ (is j ∙ ap (λ (o : Maybe ℕ). times j (ids_of o)) a)))
