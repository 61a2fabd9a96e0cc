-- SPDX-License-Identifier: GPL-2.0-only
-- The entries by which the caches that are on were registered, in order.
use Rattle.shr_assemble.proofs.Common.{◌≡◌, ℕ, zero, suc, ◌+◌, ◌<◌, ◌≤◌, ◌⊎◌, inl, inr, ⊎_elim, Bool, true, false, cond, List, [], ◌∷◌, ◌++◌, length, length-append, append_assoc, sym, refl, ap, subst, ◌∙◌, arith, slice_get, Some, None, filter_map, enumerate_from, cons_option, append-nil, same_Some, none-some, slice_get_within, PoolEntry, Registered, CacheDecl, View, Turn, opener, Enters, EntersIf, AreEntered, is_on}
use Rattle.shr_assemble.proofs.RisingTurns.{AreUp, up_push}

-- those of the first declarations that are on, where the first has this number
pub decls_from : ℕ → List CacheDecl → ℕ → List ℕ
decls_from from cs zero = []
decls_from from cs (suc n) = decls_from from cs n ++ cond (is_on (slice_get cs n)) ((from + n) ∷ []) []

decls_front : (from : ℕ) (c : CacheDecl) (cs : List CacheDecl) (n : ℕ) → decls_from from (c ∷ cs) (suc n) ≡ cond c.on (from ∷ []) [] ++ decls_from (from + 1) cs n
unfolding decls_from
decls_front from c cs zero = let same : from + 0 ≡ from = omega arith in ap (λ (m : ℕ). cond c.on (m ∷ []) []) same ∙ sym (append-nil (cond c.on (from ∷ []) []))
decls_front from c cs (suc n) = let same : from + suc n ≡ from + 1 + n = omega arith in
    ap (λ (l : List ℕ). l ++ cond (is_on (slice_get cs n)) ((from + suc n) ∷ []) []) (decls_front from c cs n)
    ∙ (append_assoc (cond c.on (from ∷ []) []) (decls_from (from + 1) cs n) (cond (is_on (slice_get cs n)) ((from + suc n) ∷ []) [])
    ∙ ap (λ (m : ℕ). cond c.on (from ∷ []) [] ++ (decls_from (from + 1) cs n ++ cond (is_on (slice_get cs n)) (m ∷ []) [])) same)

-- all of them are the numbers of the declarations that are on
pub decls_are : (cs : List CacheDecl) (from : ℕ) → filter_map (λ (c : ℕ × CacheDecl). cond c.1.on (Some c.0) None) (enumerate_from from cs) ≡ decls_from from cs (length cs)
unfolding decls_from
decls_are [] from = refl
decls_are (c ∷ cs) from = front c.on (filter_map (λ (d : ℕ × CacheDecl). cond d.1.on (Some d.0) None) (enumerate_from (from + 1) cs))
    ∙ (ap (λ (l : List ℕ). cond c.on (from ∷ []) [] ++ l) (decls_are cs (from + 1)) ∙ sym (decls_front from c cs (length cs))) where
      front : (b : Bool) (l : List ℕ) → cons_option (cond b (Some from) None) l ≡ cond b (from ∷ []) [] ++ l
      front true l = refl
      front false l = refl

-- the last of a list
last_cases : {A : Type 0} (xs : List A) (y x : A) (i : ℕ) → slice_get (xs ++ y ∷ []) i ≡ Some x → (slice_get xs i ≡ Some x) ⊎ ((i ≡ length xs) × (y ≡ x))
last_cases [] y x zero e = inr (refl, same_Some y x e)
last_cases [] y x (suc i) e = absurd (none-some x e)
last_cases (z ∷ xs) y x zero e = inl e
last_cases (z ∷ xs) y x (suc i) e = ⊎_elim (λ a. inl a) (λ b. inr (omega (arith, b.0), b.1)) (last_cases xs y x i e)

-- One entry for each of these declarations, in order. Their numbers rise, and the view knows more entries than the last number.
pub record AreMade (decls : List ℕ) (w : View) : Type 0 where
  pub up : AreUp 0 (length w.turns.known) w.turns.made
  pub many : length w.turns.made ≡ length decls
  pub entry : (i decl : ℕ) (t : Turn) → slice_get decls i ≡ Some decl → slice_get w.turns.made i ≡ Some t → (id : ℕ) × (t.entry ≡ Registered decl id 0)

made_enters : (decls : List ℕ) (decl same : ℕ) (v w : View) → decl ≡ same → AreMade decls v → Enters decl v w → AreMade (decls ++ same ∷ []) w
made_enters decls decl same v w is h e =
    let turn : Turn = record { number = length e.before; entry = Registered decl e.id 0 } in
    let turned : w.turns.made ≡ v.turns.made ++ turn ∷ [] = e.gains.adds.turned in
    let begun = e.seen in
    let more : length v.turns.known ≤ length e.before = let l = ap (λ (es : List PoolEntry). length es) begun.1 in let a = length-append v.turns.known begun.0 in omega (arith, l, a) in
    let past : length e.before < length w.turns.known = let l = ap (λ (es : List PoolEntry). length es) e.known in let a = length-append e.before (Registered decl e.id 0 ∷ []) in omega (arith, l, a) in
    let many = h.many in
    record {
      up = subst (AreUp 0 (length w.turns.known)) (sym turned) (up_push 0 (length v.turns.known) (length w.turns.known) v.turns.made turn h.up more past);
      many = ap (λ (l : List Turn). length l) turned ∙ omega (arith, many, length-append v.turns.made (turn ∷ []), length-append decls (same ∷ []));
      entry = λ i d t at_d at_t. ⊎_elim
          (λ a. ⊎_elim (λ b. h.entry i d t a b) (λ b. absurd (let lt = slice_get_within decls i d a in let last = b.0 in omega (arith, lt, last, many)))
          (last_cases v.turns.made turn t i (ap (λ (l : List Turn). slice_get l i) (sym turned) ∙ at_t)))
          (λ a. ⊎_elim (λ b. absurd (let lt = slice_get_within v.turns.made i t b in let last = a.0 in omega (arith, lt, last, many)))
          (λ b. (e.id, ap (λ (y : Turn). y.entry) (sym b.1) ∙ ap (λ (m : ℕ). Registered m e.id 0) (is ∙ a.1)))
          (last_cases v.turns.made turn t i (ap (λ (l : List Turn). slice_get l i) (sym turned) ∙ at_t)))
          (last_cases decls same d i at_d);
    }

made_if : (b : Bool) (decls : List ℕ) (decl same : ℕ) (v w : View) → decl ≡ same → AreMade decls v → EntersIf b decl v w → AreMade (decls ++ cond b (same ∷ []) []) w
made_if true decls decl same v w is h e = made_enters decls decl same v w is h e
made_if false decls decl same v w is h e = subst (λ (l : List ℕ). AreMade l w) (sym (append-nil decls)) (subst (AreMade decls) (sym e) h)

-- each declaration that is on was entered
pub made_opened : (caches : List CacheDecl) (n : ℕ) (w : View) → AreEntered caches n opener w → AreMade (decls_from 0 caches n) w
unfolding decls_from
made_opened caches zero w e = subst (AreMade []) (sym e) (record { up = omega arith; many = refl; entry = λ i d t at_d at_t. absurd (none-some d at_d) })
made_opened caches (suc n) w (u, before, one) = made_if (is_on (slice_get caches n)) (decls_from 0 caches n) n (0 + n) u w (omega arith) (made_opened caches n u before) one
