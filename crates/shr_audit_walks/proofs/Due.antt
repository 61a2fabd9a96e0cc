-- SPDX-License-Identifier: GPL-2.0-only
-- The rounds that were due, by how often each group refused.
use Rattle.shr_audit_walks.proofs.RoundsCommon.{◌≡◌, ℕ, ◌+◌, ◌<◌, ◌≤◌, Bool, true, false, cond, List, [], ◌∷◌, length, Option, Some, None, refl, sym, ap, subst, ◌∙◌, arith, ◌==◌, Decides, AllByRecursion, eq-eqb, IsAtOrAbove, Job, AreAlike, AreDue, FitsRounds, IsWithout, TakesOut, named, times_over, Refusal, refused_groups, IsPutMade}
use Rattle.shr_audit_walks.proofs.Alike.{all_alike, same_length, so_of, so_of_each}

-- ---- what is left of the groups that refused

pub due_over : (group : ℕ) (old new : List ℕ) → IsWithout group old new → length new ≡ 13 → AreDue (Some group) old new
due_over group old new w long = record { few = omega arith; refusals = λ h. sym (w.once h); all = λ g e. long }

pub due_all : (old : List ℕ) → length old ≤ 13 → AreDue None old old
due_all old few = record { few = few; refusals = λ h. omega arith; all = λ g e. absurd (let x : ◌≡◌ {A = Option ℕ} None (Some g) = e in cc) }

-- rounds that were due are those of the same groups
pub due_alike : (over : Option ℕ) (refused xs ys : List ℕ) → AreDue over refused xs → AreDue over refused ys → AreAlike xs ys
due_alike over refused xs ys a b h = let x = a.refusals h in let y = b.refusals h in omega (arith, x, y)

pub due_too : (over : Option ℕ) (refused xs ys : List ℕ) → AreDue over refused xs → AreAlike ys xs → AreDue over refused ys
due_too over refused xs ys a same =
    let long = same_length ys xs same in
    record {
      few = let f = a.few in omega (arith, f, long);
      refusals = λ h. ap (λ (n : ℕ). n + named over h) (same h) ∙ a.refusals h;
      all = λ g e. long ∙ a.all g e;
    }

pub not_named : (group : ℕ) (old rounds : List ℕ) → times_over group old ≡ 0 → AreDue (Some group) old rounds → ⊥
not_named group old rounds none d =
    let one : ◌≡◌ {A = ℕ} (cond (group == group) 1 0) 1 = rw (eq-eqb group group refl) refl in
    let e = d.refusals group in omega (arith, one, e, none)

pub not_all : (group : ℕ) (old new rounds : List ℕ) → IsWithout group old new → (length new ≡ 13 → ⊥) → AreDue (Some group) old rounds → ⊥
not_all group old new rounds w short d = short (sym (same_length rounds new (λ h. let a = w.once h in let b = d.refusals h in omega (arith, a, b))) ∙ d.all group refl)

pub too_many : (old rounds : List ℕ) → 13 < length old → AreDue None old rounds → ⊥
too_many old rounds many d =
    let e = same_length rounds old (λ h. let b = d.refusals h in omega (arith, b)) in
    let f = d.few in omega (arith, e, f, many)

-- ---- a put

module _ (parents : List ℕ) (nodes group : ℕ) (over : Option ℕ) (whole : Bool) (refused : List ℕ) (walks : List Job) where
  pub no_rounds : ((rounds : List ℕ) → AreDue over refused rounds → ⊥) → IsPutMade parents nodes group over whole refused walks → ⊥
  no_rounds none h = none h.rounds h.due

  module _ (groups : List ℕ) (due : AreDue over refused groups) where
    pub not_above : (AllByRecursion (λ g. IsAtOrAbove parents g group) groups → ⊥) → IsPutMade parents nodes group over whole refused walks → ⊥
    not_above none h = none (all_alike (λ (g : ℕ). IsAtOrAbove parents g group) groups h.rounds (due_alike over refused groups h.rounds due h.due) h.above)

    pub put_decided : (b : Bool) → AllByRecursion (λ g. IsAtOrAbove parents g group) groups → Decides b (FitsRounds parents nodes whole 12 groups walks) → Decides b (IsPutMade parents nodes group over whole refused walks)
    put_decided b above d = (
      λ t. let fits = d.0 t in record {
        rounds = fits.rounds;
        due = due_too over refused groups fits.rounds due fits.alike;
        above = all_alike (λ (g : ℕ). IsAtOrAbove parents g group) fits.rounds groups fits.alike above;
        made = fits.made;
      },
      λ h. d.1 (record { rounds = h.rounds; alike = due_alike over refused h.rounds groups h.due due; made = h.made }),
    )

-- ---- a put, by the groups and the answer as they were found

clash : (b : Bool) → b ≡ true → b ≡ false → ⊥
clash b e f = cc

pub due_found : (over found : Option ℕ) (refused groups new : List ℕ) → found ≡ over → groups ≡ refused → AreDue found groups new → AreDue over refused new
due_found over found refused groups new e f d = subst (λ (o : Option ℕ). AreDue o refused new) e (subst (λ (gs : List ℕ). AreDue found gs new) f d)

module _ (parents : List ℕ) (nodes group : ℕ) (over : Option ℕ) (whole : Bool) (refused : List ℕ) (walks : List Job) where
  pub none_put : (found : Option ℕ) (groups : List ℕ) → found ≡ over → groups ≡ refused → ((rounds : List ℕ) → AreDue found groups rounds → ⊥) → Decides false (IsPutMade parents nodes group over whole refused walks)
  none_put found groups e f none = (
    λ t. absurd cc,
    λ h. absurd (no_rounds parents nodes group over whole refused walks (λ rounds d. none rounds (due_found found over groups refused rounds (sym e) (sym f) d)) h),
  )

  module _ (new : List ℕ) (due : AreDue over refused new) where
    pub above_put : (b : Bool) → Decides b (AllByRecursion (λ h. IsAtOrAbove parents h group) new) → b ≡ false → Decides false (IsPutMade parents nodes group over whole refused walks)
    above_put b d isnt = (λ t. absurd cc, λ h. absurd (not_above parents nodes group over whole refused walks new due (λ all. clash b (d.1 all) isnt) h))

-- what is so of each group that refused is so of each round
pub due_so : (P : ℕ → Type 0) (over : Option ℕ) (refused new : List ℕ) → AreDue over refused new → AllByRecursion P refused → AllByRecursion P new
due_so P over refused new d all = so_of_each P new (λ h lt. so_of P h refused all (let e = d.refusals h in omega (arith, e, lt)))

pub groups_there : (n : ℕ) (refusals : List Refusal) → AllByRecursion (λ (x : Refusal). x.group < n) refusals → AllByRecursion (λ (g : ℕ). g < n) (refused_groups refusals)
groups_there n [] all = tt
groups_there n (x ∷ xs) all = (all.0, groups_there n xs all.1)

-- ---- whether a group was taken out

pub taken : (b : Bool) (x : ℕ) (old new : List ℕ) → TakesOut b x old new → b ≡ true → IsWithout x old new
taken true x old new h e = h
taken false x old new h e = absurd cc

pub not_taken : (b : Bool) (x : ℕ) (old new : List ℕ) → TakesOut b x old new → b ≡ false → times_over x old ≡ 0
not_taken false x old new h e = h
not_taken true x old new h e = absurd cc
