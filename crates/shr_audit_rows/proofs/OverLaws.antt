-- SPDX-License-Identifier: GPL-2.0-only
-- An Over against the charges of its command.
use Rattle.shr_audit_rows.proofs.Common.{◌≡◌, ℕ, zero, suc, ◌+◌, ◌-◌, ◌<◌, ◌≤◌, Bool, true, false, cond, List, [], ◌∷◌, drop, map, Option, Some, None, refl, sym, ap, subst, ◌∙◌, inl, inr, arith, ◌==◌, nat_eq, slice_get, option_and_then, option_map, Decides, get, IsSomeAnd, and_from, cases_lt, nat_tests, slice_get-map, slice_get_within, UseStep, Serial, GroupDecl, Script, is_by, ops_by, ups, Report, Tried, AreTries, IsTriedKeyed, TriedMap, TriesIn, tried_key, pos, nat_le, limit_of, uses_at, IsTriedBy, some_injective}
use Rattle.std.proofs.lemmas.Bool.{eq-eqb}
use Rattle.shr_laws.specs.Causes.{IsOver}
use Rattle.shr_audit_rows.specs.declared.tried.Refused.{Refused}
use Rattle.shr_audit_rows.specs.Over.{AreFourteen, IsFullAt, IsSaidOf}
use Rattle.shr_model.proofs.ChargeLaws.{ups_cons}

-- ---- a charge among others

-- the charge that an Over says
abbrev said_step : Serial → Refused → UseStep
said_step by refused = record { group = refused.group; operation = refused.operation; up = true; found = pos refused.usage; by = by }

is_by_itself : (by : Serial) (refused : Refused) → is_by by (said_step by refused) ≡ true
is_by_itself by refused = and_from (by.worker == by.worker) (by.command == by.command) (eq-eqb by.worker by.worker refl) (eq-eqb by.command by.command refl)

same_step : (by : Serial) (refused : Refused) (t : Tried) → t.last.up ≡ true → IsSaidOf by refused t → t.last ≡ said_step by refused
same_step by refused t up h =
    let a = h.group in let b = h.operation in let c = h.found in let d = h.worker in let e = h.command in
    λ i. record { group = a i; operation = b i; up = up i; found = c i; by = record { worker = d i; command = e i } }

ups_one : (o : UseStep) (os : List UseStep) → o.up ≡ true → 0 < ups (o ∷ os)
ups_one o os up = (let e = ups_cons o os in let one : cond {A = ℕ} o.up 1 0 ≡ 1 = ap (λ (b : Bool). cond {A = ℕ} b 1 0) up in omega (arith, e, one))

ups_more : (o : UseStep) (os : List UseStep) → 0 < ups os → 0 < ups (o ∷ os)
ups_more o os lt = (let e = ups_cons o os in omega (arith, e, lt))

-- a charge of the command stands among these
ups_some : (by : Serial) (ops : List UseStep) (i : ℕ) (o : UseStep) → slice_get ops i ≡ Some o → o.up ≡ true → is_by by o ≡ true → 0 < ups (ops_by by ops)
ups_some by [] i o at up own = absurd (let lt = slice_get_within [] i o at in omega (arith, lt))
ups_some by (p ∷ ops) zero o at up own =
    let same : p ≡ o = some_injective p o at in
    subst (λ (b : Bool). 0 < ups (cond b (p ∷ ops_by by ops) (ops_by by ops))) (sym (subst (λ (x : UseStep). is_by by x ≡ true) (sym same) own)) (ups_one p (ops_by by ops) (subst (λ (x : UseStep). x.up ≡ true) (sym same) up))
ups_some by (p ∷ ops) (suc i) o at up own = more (is_by by p) refl (ups_some by ops i o at up own)
  where
    more : (b : Bool) → is_by by p ≡ b → 0 < ups (ops_by by ops) → 0 < ups (ops_by by (p ∷ ops))
    more true e lt = subst (λ (c : Bool). 0 < ups (cond c (p ∷ ops_by by ops) (ops_by by ops))) (sym e) (ups_more p (ops_by by ops) lt)
    more false e lt = subst (λ (c : Bool). 0 < ups (cond c (p ∷ ops_by by ops) (ops_by by ops))) (sym e) lt

-- what stands behind others stands there still
behind_at : {X : Type 0} (xs : List X) (i k : ℕ) (x : X) → slice_get xs (i + k) ≡ Some x → slice_get (drop i xs) k ≡ Some x
behind_at xs zero k x at = ap (slice_get xs) (let e : k ≡ 0 + k = omega arith in e) ∙ at
behind_at [] (suc i) k x at = absurd (let lt = slice_get_within [] (suc i + k) x at in omega (arith, lt))
behind_at (y ∷ ys) (suc i) k x at = behind_at ys i k x (ap (slice_get (y ∷ ys)) (let e : suc (i + k) ≡ suc i + k = omega arith in e) ∙ at)

none_behind : (by : Serial) (ops : List UseStep) (i j : ℕ) (o : UseStep) → ups (ops_by by (drop (i + 1) ops)) ≡ 0 → i < j → slice_get ops j ≡ Some o → o.up ≡ true → is_by by o ≡ true → ⊥
none_behind by ops i j o none lt at up own =
    let e : j ≡ (i + 1) + (j - (i + 1)) = omega (arith, lt) in
    let there = behind_at ops (i + 1) (j - (i + 1)) o (ap (slice_get ops) (sym e) ∙ at) in
    let some = ups_some by (drop (i + 1) ops) (j - (i + 1)) o there up own in
    omega (arith, none, some)

-- ---- what an Over says

module _ (s : Script) (r : Report) (by : Serial) (own : ℕ) (refused : Refused) where
  abbrev Over : Type 0
  Over = IsOver s r by own refused.group refused.operation refused.usage

  -- the last charge is the one that it says
  index_of : (t : Tried) → IsTriedBy (uses_at r refused.group) by t → Over → t.index ≡ refused.operation
  index_of t last h = elim (cases_lt t.index refused.operation) [
    | inl below ↦ absurd (none_behind by (uses_at r refused.group) t.index refused.operation (said_step by refused) last.last below h.up refl (is_by_itself by refused))
    | inr le ↦ elim (cases_lt refused.operation t.index) [
      | inl above ↦ absurd (none_behind by (uses_at r refused.group) refused.operation t.index t.last h.last above last.at last.up last.own)
      | inr most ↦ omega (arith, le, most)
    ]
  ]

  last_is_said : (t : Tried) → IsTriedBy (uses_at r refused.group) by t → Over → t.last ≡ said_step by refused
  last_is_said t last h = some_injective t.last (said_step by refused) (sym last.at ∙ (ap (slice_get (uses_at r refused.group)) (index_of t last h) ∙ h.up))

  last_of : (o : Option Tried) → TriesIn (uses_at r refused.group) by o → Over → IsSomeAnd o (IsSaidOf by refused)
  last_of None none h = absurd (let some = ups_some by (uses_at r refused.group) refused.operation (said_step by refused) h.up refl (is_by_itself by refused) in omega (arith, none, some))
  last_of (Some t) last h = (let same = last_is_said t last h in record {
    index = index_of t last h;
    operation = ap (λ (o : UseStep). o.operation) same;
    group = ap (λ (o : UseStep). o.group) same;
    found = ap (λ (o : UseStep). o.found) same;
    worker = ap (λ (o : UseStep). o.by.worker) same;
    command = ap (λ (o : UseStep). o.by.command) same;
  })

  fourteen_of : (o : Option Tried) → TriesIn (uses_at r own) by o → Over → IsSomeAnd o AreFourteen
  fourteen_of None none h = absurd (let e = h.tried in omega (arith, none, e))
  fourteen_of (Some t) whole h = (let e = h.tried in let f = whole.count in omega (arith, e, f))

  over_of : (last whole : Option Tried) → TriesIn (uses_at r refused.group) by last → TriesIn (uses_at r own) by whole → IsSomeAnd last (IsSaidOf by refused) → IsSomeAnd whole AreFourteen → IsFullAt s refused.group refused.usage → Over
  over_of None whole l w said fourteen full = absurd said
  over_of (Some t) None l w said fourteen full = absurd fourteen
  over_of (Some t) (Some u) l w said fourteen full = record {
    up = sym (ap (slice_get (uses_at r refused.group)) said.index) ∙ (l.at ∙ ap (λ (o : UseStep). Some o) (same_step by refused t l.up said));
    full = full;
    last = subst (λ (n : ℕ). ups (ops_by by (drop (n + 1) (uses_at r refused.group))) ≡ 0) said.index l.last;
    tried = (let e = w.count in omega (arith, e, fourteen));
  }

  module _ (tries : TriedMap) (counts : List ℕ) (all : AreTries r.uses.items tries counts) (keyed : IsTriedKeyed refused.group by.worker by.command) (own_keyed : IsTriedKeyed own by.worker by.command) (last whole : Option Tried)
      (last_is : last ≡ get nat_eq tries (tried_key refused.group by.worker by.command)) (whole_is : whole ≡ get nat_eq tries (tried_key own by.worker by.command)) where
    tried_last : TriesIn (uses_at r refused.group) by last
    tried_last = subst (TriesIn (uses_at r refused.group) by) (sym last_is) (all.each refused.group by.worker by.command keyed)

    tried_whole : TriesIn (uses_at r own) by whole
    tried_whole = subst (TriesIn (uses_at r own) by) (sym whole_is) (all.each own by.worker by.command own_keyed)

    pub not_last : (b : Bool) → Decides b (IsSomeAnd last (IsSaidOf by refused)) → b ≡ false → Decides false Over
    not_last b d isnt = (λ t. absurd cc, λ h. absurd (let holds = d.1 (last_of last tried_last h) in cc))

    pub not_fourteen : (b : Bool) → Decides b (IsSomeAnd whole AreFourteen) → b ≡ false → Decides false Over
    not_fourteen b d isnt = (λ t. absurd cc, λ h. absurd (let holds = d.1 (fourteen_of whole tried_whole h) in cc))

    pub over_decided : (b : Bool) → IsSomeAnd last (IsSaidOf by refused) → IsSomeAnd whole AreFourteen → Decides b (IsFullAt s refused.group refused.usage) → Decides b Over
    over_decided b said fourteen d = (λ t. over_of last whole tried_last tried_whole said fourteen (d.0 t), λ h. d.1 h.full)

-- ---- the limit of a group

limit_some : (xs : List GroupDecl) (group : ℕ) (d : GroupDecl) → (group ≡ 0 → ⊥) → Some d ≡ slice_get xs (group - 1) → option_and_then (λ limit. limit) (slice_get (None ∷ map (λ (g : GroupDecl). g.limit) xs) group) ≡ d.limit
limit_some xs zero d isnt at = absurd (isnt refl)
limit_some xs (suc n) d isnt at =
    let here : slice_get xs n ≡ Some d = sym (at ∙ ap (slice_get xs) (let e : suc n - 1 ≡ n = omega arith in e)) in
    ap (option_and_then (λ limit. limit)) (slice_get-map (λ (g : GroupDecl). g.limit) xs n ∙ ap (option_map (λ (g : GroupDecl). g.limit)) here)

limit_none : (xs : List GroupDecl) (group : ℕ) → (group ≡ 0 → ⊥) → None ≡ slice_get xs (group - 1) → option_and_then (λ limit. limit) (slice_get (None ∷ map (λ (g : GroupDecl). g.limit) xs) group) ≡ None
limit_none xs zero isnt at = absurd (isnt refl)
limit_none xs (suc n) isnt at =
    let here : slice_get xs n ≡ None = sym (at ∙ ap (slice_get xs) (let e : suc n - 1 ≡ n = omega arith in e)) in
    ap (option_and_then (λ limit. limit)) (slice_get-map (λ (g : GroupDecl). g.limit) xs n ∙ ap (option_map (λ (g : GroupDecl). g.limit)) here)

module _ (s : Script) (group usage : ℕ) where
  no_limit : limit_of s group ≡ None → Decides false (IsFullAt s group usage)
  no_limit e = subst (λ (o : Option ℕ). Decides false (IsSomeAnd o (λ limit. limit ≤ usage))) (sym e) (λ t. absurd cc, λ h. absurd h)

  pub full_root : group ≡ 0 → Decides false (IsFullAt s group usage)
  full_root is = no_limit (ap (limit_of s) is)

  pub full_away : (group ≡ 0 → ⊥) → None ≡ slice_get s.groups.items (group - 1) → Decides false (IsFullAt s group usage)
  full_away isnt at = no_limit (limit_none s.groups.items group isnt at)

  pub full_free : (d : GroupDecl) → (group ≡ 0 → ⊥) → Some d ≡ slice_get s.groups.items (group - 1) → d.limit ≡ None → Decides false (IsFullAt s group usage)
  full_free d isnt at free = no_limit (limit_some s.groups.items group d isnt at ∙ free)

  pub full_at : (d : GroupDecl) (limit : ℕ) (b : Bool) → (group ≡ 0 → ⊥) → Some d ≡ slice_get s.groups.items (group - 1) → d.limit ≡ Some limit → Decides b (limit ≤ usage) → Decides b (IsFullAt s group usage)
  full_at d limit b isnt at is dec = subst (λ (o : Option ℕ). Decides b (IsSomeAnd o (λ l. l ≤ usage))) (sym (limit_some s.groups.items group d isnt at ∙ is)) dec

pub le_decides : (a b : ℕ) → Decides (nat_le a b) (a ≤ b)
le_decides a b = (λ t. grind (arith, nat_tests), λ h. grind (arith, nat_tests))
