-- SPDX-License-Identifier: GPL-2.0-only
-- The workers that may have begun the offlining of groups above others, from the root down.
use Rattle.shr_audit_causes.proofs.OfflinesCommon.{◌≡◌, ◌≢◌, ◌⊎◌, ℕ, ◌+◌, ◌<◌, Bool, true, false, cond, List, [], ◌∷◌, ◌++◌, length, get_or, refl, sym, ap, subst, ◌∙◌, inl, inr, arith, eq-eqb, ne_eqb, ◌==◌, Decides, cases_lt, dite, ℕ_discrete, Serial, Script, Cited, Never, Often, cited_in, IsTree, parent_of, IsAtOrAbove-le, Report, parents_of, serial_of, Whose, Nobody, One, Several, BeganAbove, BeganAt, IsWhose, either, is_only, whose_of, length-append, get_or_append_left, get_or_push, Once, AreCited, AnswerCites, TellsCited, AreAbove}
use Rattle.shr_audit_reasons.specs.declared.cites.What.TheVariants as say
use Rattle.shr_audit_reasons.proofs.Treeing.{begun_of, of_begun}
use Rattle.shr_audit_causes.proofs.PathLaws.{above_parent, parent_above, parent_itself, parent_lower, parent_other}

-- ---- workers

whose_same : (P Q : ℕ → Type 0) → ((w : ℕ) → P w → Q w) → ((w : ℕ) → Q w → P w) → (a : Whose) → IsWhose P a → IsWhose Q a
whose_same P Q to from Nobody h = λ w q. h w (from w q)
whose_same P Q to from (One v) h = (to v h.0, λ w q. h.1 w (from w q))
whose_same P Q to from Several h = record { one = h.one; other = h.other; apart = h.apart; first = to h.one h.first; second = to h.other h.second }

module _ (P Q R : ℕ → Type 0) (left : (w : ℕ) → P w → R w) (right : (w : ℕ) → Q w → R w) (from : (w : ℕ) → R w → P w ⊎ Q w) where
  two_of : (v u : ℕ) → IsWhose P (One v) → IsWhose Q (One u) → IsWhose R (cond (v == u) (One v) Several)
  two_of v u p q = dite (ℕ_discrete v u)
      (λ same. subst (λ (b : Bool). IsWhose R (cond b (One v) Several)) (sym (eq-eqb v u same)) (left v p.0, λ w h. elim (from w h) [ inl x ↦ p.1 w x | inr y ↦ q.1 w y ∙ sym same ]))
      (λ ne. subst (λ (b : Bool). IsWhose R (cond b (One v) Several)) (sym (ne_eqb v u ne)) (record { one = v; other = u; apart = ne; first = left v p.0; second = right u q.0 }))

  either_of : (a b : Whose) → IsWhose P a → IsWhose Q b → IsWhose R (either a b)
  either_of Nobody b p q = whose_same Q R right (λ w h. elim (from w h) [ inl x ↦ absurd (p w x) | inr y ↦ y ]) b q
  either_of Several b p q = record { one = p.one; other = p.other; apart = p.apart; first = left p.one p.first; second = left p.other p.second }
  either_of (One v) Nobody p q = (left v p.0, λ w h. elim (from w h) [ inl x ↦ p.1 w x | inr y ↦ absurd (q w y) ])
  either_of (One v) Several p q = record { one = q.one; other = q.other; apart = q.apart; first = right q.one q.first; second = right q.other q.second }
  either_of (One v) (One u) p q = two_of v u p q

-- it is so of no other worker, by what is kept
pub only_decided : (P : ℕ → Type 0) (a : Whose) (worker : ℕ) → IsWhose P a → Decides (is_only a worker) ((w : ℕ) → w ≢ worker → P w → ⊥)
only_decided P Nobody worker h = (λ t w ne p. h w p, λ x. refl)
only_decided P (One v) worker h = (
  λ t w ne p. ne (h.1 w p ∙ same t),
  λ x. dite (ℕ_discrete v worker) (λ e. eq-eqb v worker e) (λ ne. absurd (x v ne h.0)),
)
  where
    same : (v == worker) ≡ true → v ≡ worker
    same t = dite (ℕ_discrete v worker) (λ e. e) (λ ne. absurd (let f = ne_eqb v worker ne in let clash : false ≡ true = sym f ∙ t in cc))
only_decided P Several worker h = (
  λ t. absurd cc,
  λ x. absurd (dite (ℕ_discrete h.one worker) (λ e. x h.other (λ f. h.apart (e ∙ sym f)) h.second) (λ ne. x h.one ne h.first)),
)

-- ---- one group

module _ (s : Script) (r : Report) (group : ℕ) where
  began_here : (x : Serial) → AnswerCites s r say.Begun group x → BeganAt s r group x.worker
  began_here x c = record { by = x; own = refl; began = begun_of s r x group c }

  cites_here : (w : ℕ) (b : BeganAt s r group w) → AnswerCites s r say.Begun group b.by
  cites_here w b = of_begun s r b.by group b.began

  -- the workers of those that are noted
  whose_told : (c : Cited) → TellsCited (λ x. AnswerCites s r say.Begun group x) c → IsWhose (BeganAt s r group) (whose_of c)
  whose_told Never t = λ w b. t b.by (cites_here w b)
  whose_told (Once v k) t = (began_here (serial_of v k) t.0, λ w b. sym b.own ∙ ap (λ (y : Serial). y.worker) (t.1 b.by (cites_here w b)))
  whose_told (Often v k false) t = (began_here (serial_of v k) t.so, λ w b. sym b.own ∙ t.alone refl b.by (cites_here w b))
  whose_told (Often v k true) t = (let y = t.apart refl in record {
    one = v;
    other = y.0.worker;
    apart = λ e. y.1 (sym e);
    first = began_here (serial_of v k) t.so;
    second = began_here y.0 y.2;
  })

-- ---- from the root down

-- the table has so many groups
pub record Upto (s : Script) (r : Report) (n : ℕ) (table : List Whose) : Type 0 where
  pub count : length table ≡ n
  pub each : (group : ℕ) → group < n → IsWhose (BeganAbove s r group) (get_or table group Nobody)

module _ (s : Script) (r : Report) (tree : IsTree (parents_of s)) where
  -- nobody is above the root
  above_root : IsWhose (BeganAbove s r 0) Nobody
  above_root w h = h.other (let most = IsAtOrAbove-le (parents_of s) tree h.at 0 tree.has_root h.above in omega (arith, most))

  above_next : (group : ℕ) → 0 < group → (a b : Whose) → IsWhose (BeganAbove s r (parent_of (parents_of s) group)) a → IsWhose (BeganAt s r (parent_of (parents_of s) group)) b → IsWhose (BeganAbove s r group) (either a b)
  above_next group below a b = either_of (BeganAbove s r parent) (BeganAt s r parent) (BeganAbove s r group) higher here from a b
    where
      parents : List ℕ
      parents = parents_of s

      parent : ℕ
      parent = parent_of parents group

      higher : (w : ℕ) → BeganAbove s r parent w → BeganAbove s r group w
      higher w h = record { at = h.at; other = parent_other parents tree group below h.at h.above; above = parent_above parents tree group below h.at h.above; began = h.began }

      here : (w : ℕ) → BeganAt s r parent w → BeganAbove s r group w
      here w h = record { at = parent; other = λ same. (let lower = parent_lower parents tree group below in omega (arith, lower, same)); above = parent_itself parents tree group below; began = h }

      from : (w : ℕ) → BeganAbove s r group w → BeganAbove s r parent w ⊎ BeganAt s r parent w
      from w h = dite (ℕ_discrete h.at parent)
          (λ same. inr (subst (λ (g : ℕ). BeganAt s r g w) same h.began))
          (λ ne. inl (record { at = h.at; other = ne; above = above_parent parents tree group below h.at h.other h.above; began = h.began }))

  pub upto_one : (table : List Whose) → table ≡ Nobody ∷ [] → Upto s r 1 table
  upto_one table is = record {
    count = ap length is;
    each = λ group lt. (let root : group ≡ 0 = omega (arith, lt) in subst (λ (g : ℕ). IsWhose (BeganAbove s r g) (get_or table g Nobody)) (sym root)
        (subst (λ (xs : List Whose). IsWhose (BeganAbove s r 0) (get_or xs 0 Nobody)) (sym is) above_root));
  }

  pub upto_more : (n : ℕ) (table new : List Whose) (w : Whose) → new ≡ table ++ w ∷ [] → Upto s r n table → IsWhose (BeganAbove s r n) w → Upto s r (n + 1) new
  upto_more n table new w is before here = record {
    count = ap length is ∙ length-append table (w ∷ []) ∙ ap (λ (k : ℕ). k + 1) before.count;
    each = λ group lt. subst (λ (xs : List Whose). IsWhose (BeganAbove s r group) (get_or xs group Nobody)) (sym is) (elim (cases_lt group n) [
      | inl old ↦ subst (IsWhose (BeganAbove s r group)) (sym (get_or_append_left table (w ∷ []) Nobody group (let long = before.count in omega (arith, long, old)))) (before.each group old)
      | inr last ↦
          let same : n ≡ group = omega (arith, lt, last) in
          subst (λ (g : ℕ). IsWhose (BeganAbove s r g) (get_or (table ++ w ∷ []) g Nobody)) same (subst (IsWhose (BeganAbove s r n)) (sym (get_or_push table w Nobody n before.count)) here)
    ]);
  }

  pub upto_all : (n : ℕ) (table : List Whose) → n ≡ 65536 → Upto s r n table → AreAbove s r table
  upto_all n table all h = record {
    count = h.count ∙ all;
    each = λ group lt. h.each group (let few : n ≡ 65536 = all in omega (arith, lt, few));
  }

  -- the workers above a group by those at its parent and above that
  pub whose_next : (begun : List Cited) (table : List Whose) (group parent : ℕ) (w : Whose) → AreCited s r say.Begun 65536 begun → 0 < group → group < 65536 → parent ≡ parent_of (parents_of s) group
      → w ≡ either (get_or table parent Nobody) (whose_of (cited_in begun parent)) → Upto s r group table → IsWhose (BeganAbove s r group) w
  whose_next begun table group parent w cited below few at is h =
      let lower = parent_lower (parents_of s) tree group below in
      let under : parent < group = omega (arith, at, lower) in
      subst (IsWhose (BeganAbove s r group)) (sym is)
      (above_next group below (get_or table parent Nobody) (whose_of (cited_in begun parent))
      (subst (λ (p : ℕ). IsWhose (BeganAbove s r p) (get_or table parent Nobody)) at (h.each parent under))
      (subst (λ (p : ℕ). IsWhose (BeganAt s r p) (whose_of (cited_in begun parent))) at (whose_told s r parent (cited_in begun parent) (cited.each parent (omega (arith, under, few))))))
