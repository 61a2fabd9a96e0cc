-- SPDX-License-Identifier: GPL-2.0-only
-- When keys that go up and keys that go down settle.
use Rattle.shr_audit_charges.proofs.Common.{◌≡◌, ◌≢◌, ℕ, ◌<◌, ◌%◌, ◌^◌, ◌⊎◌, inl, inr, Bool, true, false, cond, List, [], ◌∷◌, ◌++◌, length, map, refl, sym, ap, subst, ◌∙◌, arith, ne_eqb, ◌==◌, Decides, AllByRecursion, cases_eq, count_by-le-length, sum_by-cons, sum_by-append, Move, AreBalanced, unit, ◌↔◌}
use Rattle.shr_audit_case.specs.Moves.{sum_up_at, sum_down_at, IsSettled}
use Rattle.shr_audit_charges.proofs.PathsLaw.{times, times_cons}
use Rattle.shr_model.proofs.Booleans.{nothing}

ups_map : (key : ℕ) (ks : List ℕ) → sum_up_at key (map (unit true) ks) ≡ times key ks
ups_map key [] = refl
ups_map key (k ∷ ks) =
    let a = sum_by-cons (λ (m : Move). cond (m.key == key) m.up 0) (unit true k) (map (unit true) ks) in
    let b = times_cons key k ks in let r = ups_map key ks in omega (arith, a, b, r)

downs_map : (key : ℕ) (ks : List ℕ) → sum_down_at key (map (unit false) ks) ≡ times key ks
downs_map key [] = refl
downs_map key (k ∷ ks) =
    let a = sum_by-cons (λ (m : Move). cond (m.key == key) m.down 0) (unit false k) (map (unit false) ks) in
    let b = times_cons key k ks in let r = downs_map key ks in omega (arith, a, b, r)

no_ups : (key : ℕ) (ks : List ℕ) → sum_up_at key (map (unit false) ks) ≡ 0
no_ups key [] = refl
no_ups key (k ∷ ks) =
    let a = sum_by-cons (λ (m : Move). cond (m.key == key) m.up 0) (unit false k) (map (unit false) ks) in
    let z = nothing (k == key) in let r = no_ups key ks in omega (arith, a, z, r)

no_downs : (key : ℕ) (ks : List ℕ) → sum_down_at key (map (unit true) ks) ≡ 0
no_downs key [] = refl
no_downs key (k ∷ ks) =
    let a = sum_by-cons (λ (m : Move). cond (m.key == key) m.down 0) (unit true k) (map (unit true) ks) in
    let z = nothing (k == key) in let r = no_downs key ks in omega (arith, a, z, r)

all_ups : (key : ℕ) (us ds : List ℕ) → sum_up_at key (map (unit true) us ++ map (unit false) ds) ≡ times key us
all_ups key us ds =
    let a = sum_by-append (λ (m : Move). cond (m.key == key) m.up 0) (map (unit true) us) (map (unit false) ds) in
    let b = ups_map key us in let c = no_ups key ds in omega (arith, a, b, c)

all_downs : (key : ℕ) (us ds : List ℕ) → sum_down_at key (map (unit true) us ++ map (unit false) ds) ≡ times key ds
all_downs key us ds =
    let a = sum_by-append (λ (m : Move). cond (m.key == key) m.down 0) (map (unit true) us) (map (unit false) ds) in
    let b = no_downs key us in let c = downs_map key ds in omega (arith, a, b, c)

small : (key : ℕ) (ks : List ℕ) → length ks < 2 ^ 64 → times key ks < 2 ^ 64
small key ks h = let a = count_by-le-length (λ (k : ℕ). k == key) ks in omega (arith, a, h)

pub balanced : (us ds : List ℕ) (none first both : List Move) (b : Bool) → length us < 2 ^ 64 → length ds < 2 ^ 64 → none ≡ [] → first ≡ none ++ map (unit true) us → both ≡ first ++ map (unit false) ds → ((b ≡ true) ↔ IsSettled both) → Decides b (AreBalanced us ds)
balanced us ds none first both b few_us few_ds none_is first_is both_is settled = (λ t key. to key (settled.0 t key), λ law. settled.1 (λ key. from key (law key)))
  where
    whole : both ≡ map (unit true) us ++ map (unit false) ds
    whole = both_is ∙ ap (λ (l : List Move). l ++ map (unit false) ds) (first_is ∙ ap (λ (l : List Move). l ++ map (unit true) us) none_is)

    to : (key : ℕ) → sum_up_at key both % 2 ^ 64 ≡ sum_down_at key both % 2 ^ 64 → times key us ≡ times key ds
    to key e =
        let u = ap (sum_up_at key) whole ∙ all_ups key us ds in let d = ap (sum_down_at key) whole ∙ all_downs key us ds in
        let x = small key us few_us in let y = small key ds few_ds in omega (arith, e, u, d, x, y)

    from : (key : ℕ) → times key us ≡ times key ds → sum_up_at key both % 2 ^ 64 ≡ sum_down_at key both % 2 ^ 64
    from key e =
        let u = ap (sum_up_at key) whole ∙ all_ups key us ds in let d = ap (sum_down_at key) whole ∙ all_downs key us ds in
        ap (λ (n : ℕ). n % 2 ^ 64) (u ∙ e ∙ sym d)

-- a key that isn't of a kind is none of those that are
pub none_of : (P : ℕ → Type 0) (key : ℕ) (ks : List ℕ) → (P key → ⊥) → AllByRecursion P ks → times key ks ≡ 0
none_of P key [] not h = refl
none_of P key (k ∷ ks) not h = by_eq (none_of P key ks not h.1) (cases_eq k key)
  where
    by_eq : times key ks ≡ 0 → (k ≡ key) ⊎ (k ≢ key) → times key (k ∷ ks) ≡ 0
    by_eq more (inl e) = absurd (not (subst P e h.0))
    by_eq more (inr ne) = let t = times_cons key k ks in let z = ap {B = ℕ} (λ (b : Bool). cond b 1 0) (ne_eqb k key ne) in omega (arith, t, z, more)
