-- SPDX-License-Identifier: GPL-2.0-only
-- Whether the ups of operations in a group were refused, in order, and what the tries of a charge come to there.
use Rattle.shr_assemble.proofs.Common.{◌≡◌, ◌≢◌, ℕ, ◌+◌, ◌<◌, ◌&&◌, ◌||◌, inl, inr, ⊎_elim, Bool, true, false, cond, ◌==◌, List, [], ◌∷◌, ◌++◌, length, map, refl, sym, ap, subst, ◌∙◌, arith, append_assoc, ne_eqb, Option, filter, replicate, AllByRecursion, list_any, cases_Bool, eqb-true, append-nil, dite, ℕ_discrete, UseStep, is_refused, IsBelow, is_at_or_above, IsTree, parent_of, path_of, path_of-root, path_of-below, IsOn, by_parents, on_self, on_le, Has, path_to, way_here, way_root, way_up, times_of, count_first, way_once, below_not}
use Rattle.shr_assemble.proofs.WalkingCharges.{GoesDown}
use Rattle.shr_lawful.proofs.Listed.{has_number}
use Rattle.shr_walk.proofs.Netting.{over_is}

-- whether each up was refused
abbrev pub outcomes : Option ℕ → List UseStep → List Bool
outcomes limit ops = map (is_refused limit) (filter (λ (o : UseStep). o.up) ops)

-- of the groups that refused a try each, those at or above this one: whether it was this one
abbrev pub met_at : List ℕ → ℕ → List ℕ → List Bool
met_at parents g over = map (λ (h : ℕ). h == g) (filter (λ (h : ℕ). is_at_or_above parents h g) over)

-- what tries come to in a group, of which these groups refused one each and so many more weren't refused
abbrev pub answers_in : List ℕ → ℕ → List ℕ → ℕ → ℕ → List Bool
answers_in parents own over stood g = cond (is_at_or_above parents g own) (met_at parents g over ++ replicate stood false) []

-- ---- one after the other

pub outcomes_then : (limit : Option ℕ) (a b : List UseStep) → outcomes limit (a ++ b) ≡ outcomes limit a ++ outcomes limit b
outcomes_then limit [] b = refl
outcomes_then limit (o ∷ a) b = kept o.up (outcomes_then limit a b) where
  kept : (t : Bool) → outcomes limit (a ++ b) ≡ outcomes limit a ++ outcomes limit b
      → map (is_refused limit) (cond t (o ∷ filter (λ (y : UseStep). y.up) (a ++ b)) (filter (λ (y : UseStep). y.up) (a ++ b)))
      ≡ map (is_refused limit) (cond t (o ∷ filter (λ (y : UseStep). y.up) a) (filter (λ (y : UseStep). y.up) a)) ++ outcomes limit b
  kept true e = ap (λ (l : List Bool). is_refused limit o ∷ l) e
  kept false e = e

met_then : (parents : List ℕ) (g : ℕ) (over more : List ℕ) → met_at parents g (over ++ more) ≡ met_at parents g over ++ met_at parents g more
met_then parents g [] more = refl
met_then parents g (h ∷ over) more = kept (is_at_or_above parents h g) (met_then parents g over more) where
  kept : (t : Bool) → met_at parents g (over ++ more) ≡ met_at parents g over ++ met_at parents g more
      → map (λ (j : ℕ). j == g) (cond t (h ∷ filter (λ (j : ℕ). is_at_or_above parents j g) (over ++ more)) (filter (λ (j : ℕ). is_at_or_above parents j g) (over ++ more)))
      ≡ map (λ (j : ℕ). j == g) (cond t (h ∷ filter (λ (j : ℕ). is_at_or_above parents j g) over) (filter (λ (j : ℕ). is_at_or_above parents j g) over)) ++ met_at parents g more
  kept true e = ap (λ (l : List Bool). (h == g) ∷ l) e
  kept false e = e

pub answers_then : (parents : List ℕ) (own : ℕ) (over more : List ℕ) (n g : ℕ) → answers_in parents own over 0 g ++ answers_in parents own more n g ≡ answers_in parents own (over ++ more) n g
answers_then parents own over more n g = kept (is_at_or_above parents g own) where
  kept : (t : Bool) → cond t (met_at parents g over ++ replicate 0 false) [] ++ cond t (met_at parents g more ++ replicate n false) [] ≡ cond t (met_at parents g (over ++ more) ++ replicate n false) []
  kept true = ap (λ (l : List Bool). l ++ (met_at parents g more ++ replicate n false)) (append-nil (met_at parents g over))
      ∙ (sym (append_assoc (met_at parents g over) (met_at parents g more) (replicate n false)) ∙ ap (λ (l : List Bool). l ++ replicate n false) (sym (met_then parents g over more)))
  kept false = refl

pub no_answers : (parents : List ℕ) (own g : ℕ) → answers_in parents own [] 0 g ≡ []
no_answers parents own g = elim (is_at_or_above parents g own) as (λ (t : Bool). ◌≡◌ {A = List Bool} (cond t ([] ++ replicate 0 false) []) []) [ true ↦ refl | false ↦ refl ]

-- ---- ups and downs

pub down_outcomes : (limit : Option ℕ) (ops : List UseStep) → AllByRecursion GoesDown ops → outcomes limit ops ≡ []
down_outcomes limit [] h = refl
down_outcomes limit (o ∷ ops) h = ap {A = Bool} (λ (t : Bool). map (is_refused limit) (cond t (o ∷ filter (λ (y : UseStep). y.up) ops) (filter (λ (y : UseStep). y.up) ops))) h.0 ∙ down_outcomes limit ops h.1

-- an up that found room
abbrev pub FoundRoom : Option ℕ → UseStep → Type 0
FoundRoom limit o = (o.up ≡ true) × IsBelow limit o

pub up_outcomes : (limit : Option ℕ) (ops : List UseStep) → AllByRecursion (FoundRoom limit) ops → outcomes limit ops ≡ replicate (length ops) false
up_outcomes limit [] h = refl
up_outcomes limit (o ∷ ops) h = ap {A = Bool} (λ (t : Bool). map (is_refused limit) (cond t (o ∷ filter (λ (y : UseStep). y.up) ops) (filter (λ (y : UseStep). y.up) ops))) h.0.0
    ∙ (λ i. below_not limit o h.0.1 i ∷ up_outcomes limit ops h.1 i)

-- a refused up, and then downs
pub over_outcomes : (limit : Option ℕ) (o : UseStep) (ops : List UseStep) → o.up ≡ true → (IsBelow limit o → ⊥) → AllByRecursion GoesDown ops → outcomes limit (o ∷ ops) ≡ true ∷ []
over_outcomes limit o ops up above down = ap {A = Bool} (λ (t : Bool). map (is_refused limit) (cond t (o ∷ filter (λ (y : UseStep). y.up) ops) (filter (λ (y : UseStep). y.up) ops))) up
    ∙ (λ i. over_is limit o up above i ∷ down_outcomes limit ops down i)

-- ---- how often a group stands on the way

has_any : (xs : List ℕ) (g : ℕ) → list_any (λ (h : ℕ). h == g) xs ≡ true → Has xs g
has_any [] g e = absurd (let f : false ≡ true = e in cc)
has_any (x ∷ xs) g e = ⊎_elim (λ (t : (x == g) ≡ true). inl (eqb-true x g t)) (λ (f : (x == g) ≡ false). inr (has_any xs g (sym (ap (λ (b : Bool). b || list_any (λ (h : ℕ). h == g) xs) f) ∙ e))) (cases_Bool (x == g))

pub above_is : (parents : List ℕ) (g b : ℕ) → IsOn parents g b → is_at_or_above parents g b ≡ true
above_is parents g b on = has_number (path_of parents b) g on

module _ (parents : List ℕ) (tree : IsTree parents) (level g : ℕ) (apart : g ≢ level) where
  abbrev On : ℕ → ℕ
  On b = cond (is_at_or_above parents g b && is_at_or_above parents level g) 1 0

  not_both : (b : ℕ) → b < length parents → b ≡ level → (s t : Bool) → is_at_or_above parents g b ≡ s → is_at_or_above parents level g ≡ t → ◌≡◌ {A = ℕ} 0 (cond (s && t) 1 0)
  not_both b low same false t e f = refl
  not_both b low same true false e f = refl
  not_both b low same true true e f =
      let on = has_any (path_of parents b) g e in let back = has_any (path_of parents g) level f in
      let down = on_le parents tree g b low on in let there : g < length parents = omega (arith, down, low) in let up = on_le parents tree level g there back in
      absurd (apart (omega (arith, down, up, same)))

  -- a group other than the last stands on the way to the last one once if it is on the path and the last one is above it
  pub way_times : (own : ℕ) → own < length parents → IsOn parents level own → times_of g (path_to parents own level) ≡ On own
  way_times own lt = by_parents parents tree (λ b. IsOn parents level b → times_of g (path_to parents b level) ≡ On b)
      (λ on. let zero_is : 0 ≡ level = root_only on in
      ap (times_of g) (way_root parents level) ∙ (ap (λ (t : Bool). 0 + cond {A = ℕ} t 1 0) (ne_eqb 0 g (λ e. apart (sym e ∙ zero_is))) ∙ not_both 0 tree.has_root zero_is (is_at_or_above parents g 0) (is_at_or_above parents level g) refl refl))
      (λ b above low before on. dite (ℕ_discrete b level)
      (λ same. ap (times_of g) (ap (path_to parents b) (sym same) ∙ way_here parents b) ∙ (ap (λ (t : Bool). 0 + cond {A = ℕ} t 1 0) (ne_eqb b g (λ e. apart (sym e ∙ same))) ∙ not_both b low same (is_at_or_above parents g b) (is_at_or_above parents level g) refl refl))
      (λ other. dite (ℕ_discrete b g)
      (λ here. subst (λ (j : ℕ). times_of j (path_to parents b level) ≡ 1) here (way_once parents tree level b low)
      ∙ (λ i. cond {A = ℕ} (sym (above_is parents g b (subst (λ (j : ℕ). IsOn parents j b) here (on_self parents tree b low))) i && sym (above_is parents level g (subst (IsOn parents level) here on)) i) 1 0))
      (λ ne. let rest = before (⊎_elim (λ e. absurd (other e)) (λ up. up) (subst (λ (xs : List ℕ). Has xs level) (path_of-below parents tree b above low) on)) in
      let way = ap (times_of g) (way_up parents tree b level other above low) in let first = count_first (λ (j : ℕ). j == g) b (path_to parents (parent_of parents b) level) in
      let none : ◌≡◌ {A = ℕ} (cond (b == g) 1 0) 0 = ap (λ (t : Bool). cond {A = ℕ} t 1 0) (ne_eqb b g ne) in
      let step : is_at_or_above parents g b ≡ is_at_or_above parents g (parent_of parents b) = ap (list_any (λ (h : ℕ). h == g)) (path_of-below parents tree b above low) ∙ ap (λ (t : Bool). t || is_at_or_above parents g (parent_of parents b)) (ne_eqb b g ne) in
      let same : On (parent_of parents b) ≡ On b = ap (λ (t : Bool). cond {A = ℕ} (t && is_at_or_above parents level g) 1 0) (sym step) in
      omega (arith, way, first, none, rest, same)))) own lt where
        root_only : IsOn parents level 0 → 0 ≡ level
        root_only on = ⊎_elim (λ e. e) (λ none. absurd none) (subst (λ (xs : List ℕ). Has xs level) (path_of-root parents) on)
