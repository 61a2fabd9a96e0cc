-- SPDX-License-Identifier: GPL-2.0-only
-- The charges of commands in groups, one operation after another.
use Rattle.shr_audit_rows.proofs.Common.{◌≡◌, ◌⊎◌, ℕ, zero, suc, ◌+◌, ◌<◌, ◌≤◌, Bool, true, false, cond, List, [], ◌∷◌, ◌++◌, length, get_or, set, take, drop, replicate, Option, Some, None, refl, sym, ap, subst, ◌∙◌, inl, inr, arith, eq-eqb, ne_eqb, length-set, get_or-set_same, get_or-set_other, ◌==◌, nat_eq, nat_lt, not, slice_get, get, and_parts, and_from, nat_tests, append-nil, get_or-replicate, length-replicate, take_more, sum_by-cons, slice_get_within, dite, ℕ_discrete, UseStep, Serial, is_by, ops_by, ups, serial_of, Tried, AreTries, IsTriedKeyed, TriedMap, TriesIn, tried_key, min, length-append, filter, cases_Bool, eqb-true, drop-append-le, take_all, count_by-le-length, length-filter, sum_by-append, IsLastNoted, step_key, last_with, ups_with, tried_uses}
use Rattle.std.proofs.lemmas.List.Elements.{filter-append}
use Rattle.std.proofs.Math.Seq.{drop-append_seam}
use Rattle.shr_model.proofs.Booleans.{not_true}
use Rattle.shr_model.proofs.Lists.{filter_out, get_last}

-- ---- lists with one more

passed : {X : Type 0} (p : X → Bool) (xs : List X) (x : X) (b : Bool) → p x ≡ b → filter p (xs ++ x ∷ []) ≡ filter p xs ++ cond b (x ∷ []) []
passed p xs x b e = filter-append p xs (x ∷ []) ∙ ap (λ (c : Bool). filter p xs ++ cond c (x ∷ []) []) e

at_front : {X : Type 0} (xs : List X) (x : X) (i : ℕ) (y : X) → slice_get xs i ≡ Some y → slice_get (xs ++ x ∷ []) i ≡ Some y
at_front [] x i y e = absurd (let lt = slice_get_within [] i y e in omega (arith, lt))
at_front (z ∷ zs) x zero y e = e
at_front (z ∷ zs) x (suc i) y e = at_front zs x i y e

-- ---- charges of a command

-- how many charges of a command are among these operations
ups_by : Serial → List UseStep → ℕ
ups_by by ops = ups (ops_by by ops)

ups_one : (by : Serial) (step : UseStep) (b up : Bool) → is_by by step ≡ b → step.up ≡ up → ups (ops_by by (step ∷ [])) ≡ cond {A = ℕ} b (cond {A = ℕ} up 1 0) 0
ups_one by step b up e f = ap (λ (c : Bool). ups (cond c (step ∷ []) [])) e ∙ by_test b up f
  where
    alone : ups (step ∷ []) ≡ cond {A = ℕ} step.up 1 0 + 0
    alone = sum_by-cons (λ (o : UseStep). cond o.up 1 0) step []

    by_test : (b up : Bool) → step.up ≡ up → ups (cond b (step ∷ []) []) ≡ cond {A = ℕ} b (cond {A = ℕ} up 1 0) 0
    by_test true true f = alone ∙ ap (λ (c : Bool). cond {A = ℕ} c 1 0 + 0) f
    by_test true false f = alone ∙ ap (λ (c : Bool). cond {A = ℕ} c 1 0 + 0) f
    by_test false up f = refl

ups_more : (by : Serial) (ops : List UseStep) (step : UseStep) (b up : Bool) → is_by by step ≡ b → step.up ≡ up → ups (ops_by by (ops ++ step ∷ [])) ≡ ups (ops_by by ops) + cond {A = ℕ} b (cond {A = ℕ} up 1 0) 0
ups_more by ops step b up e f =
    ap ups (filter-append (is_by by) ops (step ∷ [])) ∙ sum_by-append (λ (o : UseStep). cond o.up 1 0) (ops_by by ops) (ops_by by (step ∷ []))
    ∙ ap (λ (n : ℕ). ups (ops_by by ops) + n) (ups_one by step b up e f)

-- an operation that isn't a charge of the command
none_more : (by : Serial) (ops : List UseStep) (step : UseStep) → ((is_by by step ≡ false) ⊎ (step.up ≡ false)) → ups (ops_by by (ops ++ step ∷ [])) ≡ ups (ops_by by ops)
none_more by ops step (inl e) = (let h = ups_more by ops step false step.up e refl in omega (arith, h))
none_more by ops step (inr f) = (let h = ups_more by ops step (is_by by step) false refl f in let z = none (is_by by step) in omega (arith, h, z))
  where
    none : (b : Bool) → cond {A = ℕ} b (cond {A = ℕ} false 1 0) 0 ≡ 0
    none true = refl
    none false = refl

keeps : (by : Serial) (ops : List UseStep) (step : UseStep) → ((is_by by step ≡ false) ⊎ (step.up ≡ false)) → (o : Option Tried) → TriesIn ops by o → TriesIn (ops ++ step ∷ []) by o
keeps by ops step other None t = none_more by ops step other ∙ t
keeps by ops step other (Some x) t =
    let lt = slice_get_within ops x.index x.last t.at in
    record {
      count = t.count ∙ ap (min 15) (sym (none_more by ops step other));
      at = at_front ops step x.index x.last t.at;
      up = t.up;
      own = t.own;
      last = ap (λ (os : List UseStep). ups (ops_by by os)) (drop-append-le (x.index + 1) ops (step ∷ []) (omega (arith, lt))) ∙ none_more by (drop (x.index + 1) ops) step other ∙ t.last;
    }

capped : (o : Option Tried) (by : Serial) (ops : List UseStep) → TriesIn ops by o → ups_with o ≡ min 15 (ups (ops_by by ops) + 1)
capped None by ops t = (let e = t in omega (arith, e))
capped (Some x) by ops t = by_test (nat_lt x.ups 15) refl
  where
    by_test : (b : Bool) → nat_lt x.ups 15 ≡ b → cond b (x.ups + 1) 15 ≡ min 15 (ups (ops_by by ops) + 1)
    by_test true f = (let lt : x.ups < 15 = grind (arith, nat_tests) in let e = t.count in omega (arith, lt, e))
    by_test false f = (let le : 15 ≤ x.ups = grind (arith, nat_tests) in let e = t.count in omega (arith, le, e))

adds : (by : Serial) (ops : List UseStep) (step : UseStep) (index : ℕ) → is_by by step ≡ true → step.up ≡ true → index ≡ length ops → (o : Option Tried) → TriesIn ops by o → TriesIn (ops ++ step ∷ []) by (Some (last_with o step index))
adds by ops step index own up is o t = record {
  count = capped o by ops t ∙ ap (min 15) (sym (ups_more by ops step true true own up));
  at = ap (slice_get (ops ++ step ∷ [])) is ∙ get_last ops step;
  up = up;
  own = own;
  last = ap (λ (os : List UseStep). ups (ops_by by os)) (behind ∙ drop-append_seam (ops ++ step ∷ []) []);
}
  where
    long : length (ops ++ step ∷ []) ≡ index + 1
    long = length-append ops (step ∷ []) ∙ ap (λ (n : ℕ). n + 1) (sym is)

    behind : drop (index + 1) (ops ++ step ∷ []) ≡ drop (length (ops ++ step ∷ [])) ((ops ++ step ∷ []) ++ [])
    behind = ap (λ (n : ℕ). drop n (ops ++ step ∷ [])) (sym long) ∙ ap (drop (length (ops ++ step ∷ []))) (sym (append-nil (ops ++ step ∷ [])))

-- ---- all commands in all groups

one_key : (g w n h v m : ℕ) → IsTriedKeyed g w n → IsTriedKeyed h v m → tried_key g w n ≡ tried_key h v m → (g ≡ h) × (w ≡ v) × (n ≡ m)
one_key g w n h v m a b e =
    let ag = a.group in let aw = a.worker in let an = a.command in let bh = b.group in let bv = b.worker in let bm = b.command in (
      omega (arith, ag, aw, an, bh, bv, bm, e),
      omega (arith, ag, aw, an, bh, bv, bm, e),
      omega (arith, ag, aw, an, bh, bv, bm, e),
    )

is_by_parts : (w n : ℕ) (step : UseStep) → is_by (serial_of w n) step ≡ true → (step.by.worker ≡ w) × (step.by.command ≡ n)
is_by_parts w n step e = let p = and_parts (step.by.worker == w) (step.by.command == n) e in (eqb-true step.by.worker w p.0, eqb-true step.by.command n p.1)

by_itself : (step : UseStep) → is_by (serial_of step.by.worker step.by.command) step ≡ true
by_itself step = and_from (step.by.worker == step.by.worker) (step.by.command == step.by.command) (eq-eqb step.by.worker step.by.worker refl) (eq-eqb step.by.command step.by.command refl)

module _ (before : List UseStep) (step : UseStep) (g : ℕ) where
  own_group : step.group ≡ g → tried_uses (before ++ step ∷ []) g ≡ tried_uses before g ++ step ∷ []
  own_group e = passed (λ (o : UseStep). o.group == g) before step true (eq-eqb step.group g e)

  other_group : (step.group ≡ g → ⊥) → tried_uses (before ++ step ∷ []) g ≡ tried_uses before g
  other_group ne = filter_out (λ (o : UseStep). o.group == g) before step (ne_eqb step.group g ne)

-- the operations of each group are counted
counts_next : (before : List UseStep) (step : UseStep) (counts : List ℕ) (index : ℕ) → length counts ≡ 65536 → step.group < 65536 → index ≡ get_or counts step.group 0
    → ((g : ℕ) → g < 65536 → get_or counts g 0 ≡ length (tried_uses before g)) → (g : ℕ) → g < 65536 → get_or (set counts step.group (index + 1)) g 0 ≡ length (tried_uses (before ++ step ∷ []) g)
counts_next before step counts index sized few is all g lt = dite (ℕ_discrete g step.group)
    (λ same. subst (λ (k : ℕ). get_or (set counts step.group (index + 1)) k 0 ≡ length (tried_uses (before ++ step ∷ []) k)) (sym same)
    (get_or-set_same counts step.group (index + 1) 0 (subst (λ (n : ℕ). step.group < n) (sym sized) few) ∙ ap (λ (n : ℕ). n + 1) (is ∙ all step.group few)
    ∙ sym (ap length (own_group before step step.group refl) ∙ length-append (tried_uses before step.group) (step ∷ []))))
    (λ ne. get_or-set_other counts step.group g (index + 1) 0 ne ∙ all g lt ∙ ap length (sym (other_group before step g (λ e. ne (sym e)))))

-- a charge of no command
pub step_down : (before : List UseStep) (step : UseStep) (tried : TriedMap) (counts : List ℕ) (index : ℕ) → step.group < 65536 → index ≡ get_or counts step.group 0 → step.up ≡ false → AreTries before tried counts → AreTries (before ++ step ∷ []) tried (set counts step.group (index + 1))
step_down before step tried counts index few is down t = record {
  sized = length-set counts step.group (index + 1) ∙ t.sized;
  counted = counts_next before step counts index t.sized few is t.counted;
  each = λ g w n keyed. dite (ℕ_discrete step.group g)
      (λ same. subst (λ (os : List UseStep). TriesIn os (serial_of w n) (get nat_eq tried (tried_key g w n))) (sym (own_group before step g same))
      (keeps (serial_of w n) (tried_uses before g) step (inr down) (get nat_eq tried (tried_key g w n)) (t.each g w n keyed)))
      (λ ne. subst (λ (os : List UseStep). TriesIn os (serial_of w n) (get nat_eq tried (tried_key g w n))) (sym (other_group before step g ne)) (t.each g w n keyed));
}

-- a charge
pub step_up : (before : List UseStep) (step : UseStep) (old new : TriedMap) (counts : List ℕ) (index : ℕ) → step.group < 65536 → index ≡ get_or counts step.group 0 → step.up ≡ true → IsLastNoted step index old new → AreTries before old counts → AreTries (before ++ step ∷ []) new (set counts step.group (index + 1))
step_up before step old new counts index few is up last t = record {
  sized = length-set counts step.group (index + 1) ∙ t.sized;
  counted = counts_next before step counts index t.sized few is t.counted;
  each = each;
}
  where
    place : index ≡ length (tried_uses before step.group)
    place = is ∙ t.counted step.group few

    own : (g w n : ℕ) → IsTriedKeyed g w n → step.group ≡ g → step.by.worker ≡ w → step.by.command ≡ n → TriesIn (tried_uses (before ++ step ∷ []) g) (serial_of w n) (get nat_eq new (tried_key g w n))
    own g w n keyed a b c = subst (λ (k : ℕ). TriesIn (tried_uses (before ++ step ∷ []) k) (serial_of w n) (get nat_eq new (tried_key k w n))) a
        (subst (λ (k : ℕ). TriesIn (tried_uses (before ++ step ∷ []) step.group) (serial_of k n) (get nat_eq new (tried_key step.group k n))) b
        (subst (λ (k : ℕ). TriesIn (tried_uses (before ++ step ∷ []) step.group) (serial_of step.by.worker k) (get nat_eq new (tried_key step.group step.by.worker k))) c here))
      where
        here : TriesIn (tried_uses (before ++ step ∷ []) step.group) (serial_of step.by.worker step.by.command) (get nat_eq new (step_key step))
        here = subst (TriesIn (tried_uses (before ++ step ∷ []) step.group) (serial_of step.by.worker step.by.command))
            (sym (last.put (step_key step) ∙ ap (λ (b : Bool). cond b (Some (last_with (get nat_eq old (step_key step)) step index)) (get nat_eq old (step_key step))) (eq-eqb (step_key step) (step_key step) refl)))
            (subst (λ (os : List UseStep). TriesIn os (serial_of step.by.worker step.by.command) (Some (last_with (get nat_eq old (step_key step)) step index))) (sym (own_group before step step.group refl))
            (adds (serial_of step.by.worker step.by.command) (tried_uses before step.group) step index (by_itself step) up place (get nat_eq old (step_key step)) (t.each step.group step.by.worker step.by.command last.keyed)))

    kept : (g w n : ℕ) → (step_key step ≡ tried_key g w n → ⊥) → get nat_eq old (tried_key g w n) ≡ get nat_eq new (tried_key g w n)
    kept g w n ne = sym (last.put (tried_key g w n) ∙ ap (λ (b : Bool). cond b (Some (last_with (get nat_eq old (step_key step)) step index)) (get nat_eq old (tried_key g w n))) (ne_eqb (step_key step) (tried_key g w n) ne))

    each : (g w n : ℕ) → IsTriedKeyed g w n → TriesIn (tried_uses (before ++ step ∷ []) g) (serial_of w n) (get nat_eq new (tried_key g w n))
    each g w n keyed = dite (ℕ_discrete (step_key step) (tried_key g w n))
        (λ same. (let e = one_key step.group step.by.worker step.by.command g w n last.keyed keyed same in own g w n keyed e.0 e.1 e.2))
        (λ ne. subst (TriesIn (tried_uses (before ++ step ∷ []) g) (serial_of w n)) (kept g w n ne) (dite (ℕ_discrete step.group g)
        (λ same. subst (λ (os : List UseStep). TriesIn os (serial_of w n) (get nat_eq old (tried_key g w n))) (sym (own_group before step g same))
        (keeps (serial_of w n) (tried_uses before g) step (inl (not_by g w n ne same)) (get nat_eq old (tried_key g w n)) (t.each g w n keyed)))
        (λ away. subst (λ (os : List UseStep). TriesIn os (serial_of w n) (get nat_eq old (tried_key g w n))) (sym (other_group before step g away)) (t.each g w n keyed))))
      where
        not_by : (g w n : ℕ) → (step_key step ≡ tried_key g w n → ⊥) → step.group ≡ g → is_by (serial_of w n) step ≡ false
        not_by g w n ne same = elim (cases_Bool (is_by (serial_of w n) step)) [
          | inl holds ↦ (let p = is_by_parts w n step holds in let a = p.0 in let b = p.1 in absurd (ne (omega (arith, same, a, b))))
          | inr isnt ↦ isnt
        ]

-- ---- from the start

pub tries_none : (count : ℕ) (tried : TriedMap) (counts : List ℕ) → count ≡ 65536 → counts ≡ replicate count 0 → ((key : ℕ) → get nat_eq tried key ≡ None) → AreTries [] tried counts
tries_none count tried counts is e none = record {
  sized = ap length e ∙ length-replicate count 0 ∙ is;
  counted = λ g lt. ap (λ (xs : List ℕ). get_or xs g 0) e ∙ get_or-replicate count g 0 0 (subst (λ (n : ℕ). g < n) (sym is) lt);
  each = λ g w n keyed. subst (TriesIn [] (serial_of w n)) (sym (none (tried_key g w n))) refl;
}

pub tries_more : (uses : List UseStep) (n : ℕ) (d : UseStep) (tried : TriedMap) (counts : List ℕ) → n < length uses → AreTries (take n uses ++ get_or uses n d ∷ []) tried counts → AreTries (take (n + 1) uses) tried counts
tries_more uses n d tried counts lt t = subst (λ (us : List UseStep). AreTries us tried counts) (sym (take_more uses n d lt)) t

pub tries_all : (uses all : List UseStep) (n : ℕ) (tried : TriedMap) (counts : List ℕ) → uses ≡ all → length uses ≤ n → AreTries (take n uses) tried counts → AreTries all tried counts
tries_all uses all n tried counts is over t = subst (λ (us : List UseStep). AreTries us tried counts) (take_all n uses over ∙ is) t

-- a group has no more operations than there are
pub uses_few : (uses : List UseStep) (group : ℕ) → length (tried_uses uses group) ≤ length uses
uses_few uses group = (let e = length-filter (λ (o : UseStep). o.group == group) uses in let le = count_by-le-length (λ (o : UseStep). o.group == group) uses in omega (arith, e, le))
