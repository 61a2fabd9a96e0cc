-- SPDX-License-Identifier: GPL-2.0-only
-- The law on charges from its parts.
use Rattle.shr_audit_charges.proofs.Common.{◌≡◌, ℕ, ◌+◌, ◌-◌, ◌<◌, ◌≤◌, ◌⊎◌, inl, inr, Bool, true, false, List, length, get_or, Option, Some, None, sym, ap, subst, arith, slice_get, option_and_then, Decides, cases_lt, ints, slice_get-get_or, slice_get_past, slice_get_within, UseStep, GroupDecl, Script, ups, downs, Report, parents_of, Usage, AreCharged, AreUsagesOf, group_uses, AreFinal, AreWithin, AreNets, AreOwnRight, IfSome, length-map, AreChargesLawful, listed_below, later_of, limit_of, limits_of, AreUpsOfPuts}
use Rattle.shr_audit_charges.specs.Law.{AreUsesLawful, IsTreeLawful}
use Rattle.shr_audit_formed.proofs.Eachs.{fails}

pub clash : (b : Bool) → b ≡ true → b ≡ false → ⊥
clash b e f = cc

pub later_long : (s : Script) (later : List Bool) (parents : List ℕ) → later ≡ later_of s → parents ≡ parents_of s → length later ≡ length parents
later_long s later parents l p =
    let a = ap length l in let b = ap length p in
    let c = length-map s.groups.items (λ (g : GroupDecl). g.later) in let d = length-map s.groups.items (λ (g : GroupDecl). g.parent) in omega (arith, a, b, c, d)

limits_long : (s : Script) → length (limits_of s) ≡ length (parents_of s)
limits_long s = let c = length-map s.groups.items (λ (g : GroupDecl). g.limit) in let d = length-map s.groups.items (λ (g : GroupDecl). g.parent) in omega (arith, c, d)

module _ (s : Script) (r : Report) (usages : List Usage) (are : AreUsagesOf (length (parents_of s)) r.uses.items usages) (final : AreFinal (parents_of s) r r.uses.items) where
  -- the operations of a group less those that go down are what is listed
  less : (g : ℕ) (x : Usage) → slice_get usages g ≡ Some x → x.ups - x.downs ≡ listed_below s r g
  less g x at =
      let is = are.each g x at in
      let lt = slice_get_within usages g x at in let c = are.count in
      let f = final g (omega (arith, lt, c)) in
      let same : ups (group_uses r.uses.items g) ≡ downs (group_uses r.uses.items g) + listed_below s r g = omega (arith, ints, f) in
      let u = ap (λ (v : Usage). v.ups) is in let d = ap (λ (v : Usage). v.downs) is in omega (arith, same, u, d)

  limits_if : (limit : Option ℕ) (n m : ℕ) → n ≡ m → IfSome limit (λ l. n ≤ l) → IfSome limit (λ l. m ≤ l)
  limits_if None n m e h = tt
  limits_if (Some l) n m e h = omega (arith, e, h)

  none_over : (limit : Option ℕ) (n : ℕ) → limit ≡ None → IfSome limit (λ l. n ≤ l)
  none_over limit n e = subst (λ (x : Option ℕ). IfSome x (λ l. n ≤ l)) (sym e) tt

  pub to_limits : AreWithin (limits_of s) usages → (g : ℕ) → IfSome (limit_of s g) (λ limit. listed_below s r g ≤ limit)
  to_limits within g = by_group (cases_lt g (length usages))
    where
      by_group : (g < length usages) ⊎ (length usages ≤ g) → IfSome (limit_of s g) (λ limit. listed_below s r g ≤ limit)
      by_group (inl lt) =
          let d : Usage = record { ups = 0; downs = 0 } in
          let at = slice_get-get_or usages g d lt in
          limits_if (limit_of s g) ((get_or usages g d).ups - (get_or usages g d).downs) (listed_below s r g) (less g (get_or usages g d) at) (within g (get_or usages g d) at)
      by_group (inr ge) = none_over (limit_of s g) (listed_below s r g) (ap (option_and_then (λ (l : Option ℕ). l)) (slice_get_past (limits_of s) g (let a = limits_long s in let c = are.count in omega (arith, a, c, ge))))

  pub from_limits : ((g : ℕ) → IfSome (limit_of s g) (λ limit. listed_below s r g ≤ limit)) → AreWithin (limits_of s) usages
  from_limits limits g x at = limits_if (limit_of s g) (listed_below s r g) (x.ups - x.downs) (sym (less g x at)) (limits g)

-- the parts on operations, where those before the limits hold
pub uses_decided : (s : Script) (r : Report) (groups : ℕ) (limits : List (Option ℕ)) (uses : List UseStep) (usages shown : List Usage) (b : Bool) → groups ≡ length (parents_of s) → limits ≡ limits_of s → uses ≡ r.uses.items → shown ≡ usages → AreCharged groups uses × AreUsagesOf groups uses usages
    → AreOwnRight limits uses → AreUpsOfPuts s uses → AreFinal (parents_of s) r uses → Decides b (AreWithin limits shown) → Decides b (AreUsesLawful s r)
uses_decided s r groups limits uses usages shown b groups_are limits_are uses_are shown_are h own puts final within = (
  λ t. record { charged = charged; own = own'; puts = puts'; final = final'; limits = to_limits s r usages are final' (within'.0 t) },
  λ law. within'.1 (from_limits s r usages are final' law.limits),
)
  where
    both : AreCharged (length (parents_of s)) r.uses.items × AreUsagesOf (length (parents_of s)) r.uses.items usages
    both = subst (λ (us : List UseStep). AreCharged (length (parents_of s)) us × AreUsagesOf (length (parents_of s)) us usages) uses_are (subst (λ (n : ℕ). AreCharged n uses × AreUsagesOf n uses usages) groups_are h)

    charged : AreCharged (length (parents_of s)) r.uses.items
    charged = both.0

    are : AreUsagesOf (length (parents_of s)) r.uses.items usages
    are = both.1

    own' : AreOwnRight (limits_of s) r.uses.items
    own' = subst (AreOwnRight (limits_of s)) uses_are (subst (λ (l : List (Option ℕ)). AreOwnRight l uses) limits_are own)

    puts' : AreUpsOfPuts s r.uses.items
    puts' = subst (AreUpsOfPuts s) uses_are puts

    final' : AreFinal (parents_of s) r r.uses.items
    final' = subst (AreFinal (parents_of s) r) uses_are final

    within' : Decides b (AreWithin (limits_of s) usages)
    within' = subst (λ (xs : List Usage). Decides b (AreWithin (limits_of s) xs)) shown_are (subst (λ (l : List (Option ℕ)). Decides b (AreWithin l shown)) limits_are within)

-- where an earlier part fails
pub charged_fails : (s : Script) (r : Report) (groups : ℕ) (uses : List UseStep) → groups ≡ length (parents_of s) → uses ≡ r.uses.items → (AreCharged groups uses → ⊥) → Decides false (AreUsesLawful s r)
charged_fails s r groups uses g u not = (λ t. absurd cc, λ law. absurd (not (subst (λ (us : List UseStep). AreCharged groups us) (sym u) (subst (λ (n : ℕ). AreCharged n r.uses.items) (sym g) law.charged))))

pub own_fails : (s : Script) (r : Report) (limits : List (Option ℕ)) (uses : List UseStep) (b : Bool) → limits ≡ limits_of s → uses ≡ r.uses.items → Decides b (AreOwnRight limits uses) → b ≡ false → Decides false (AreUsesLawful s r)
own_fails s r limits uses b l u d f = fails (AreOwnRight limits uses) (AreUsesLawful s r) b d f (λ law. subst (AreOwnRight limits) (sym u) (subst (λ (ls : List (Option ℕ)). AreOwnRight ls r.uses.items) (sym l) law.own))

pub puts_fail : (s : Script) (r : Report) (uses : List UseStep) (b : Bool) → uses ≡ r.uses.items → Decides b (AreUpsOfPuts s uses) → b ≡ false → Decides false (AreUsesLawful s r)
puts_fail s r uses b u d f = fails (AreUpsOfPuts s uses) (AreUsesLawful s r) b d f (λ law. subst (AreUpsOfPuts s) (sym u) law.puts)

pub final_fails : (s : Script) (r : Report) (parents : List ℕ) (uses : List UseStep) (b : Bool) → parents ≡ parents_of s → uses ≡ r.uses.items → Decides b (AreFinal parents r uses) → b ≡ false → Decides false (AreUsesLawful s r)
final_fails s r parents uses b p u d f = fails (AreFinal parents r uses) (AreUsesLawful s r) b d f (λ law. subst (AreFinal parents r) (sym u) (subst (λ (ps : List ℕ). AreFinal ps r r.uses.items) (sym p) law.final))

-- ---- the law

pub law_of : (s : Script) (r : Report) → IsTreeLawful s r → AreUsesLawful s r → AreNets s r → AreChargesLawful s r
law_of s r tree uses nets = record {
  tree = tree;
  there = uses.charged.there;
  histories = uses.charged.histories;
  taken_back = uses.own.taken_back;
  puts = uses.puts;
  fourteen = uses.own.fourteen;
  between = uses.own.between;
  nets = nets;
  final = uses.final;
  limits = uses.limits;
}

pub uses_in : (s : Script) (r : Report) → AreChargesLawful s r → AreUsesLawful s r
uses_in s r law = record {
  charged = record { there = law.there; histories = law.histories };
  own = record { taken_back = law.taken_back; fourteen = law.fourteen; between = law.between };
  puts = law.puts;
  final = law.final;
  limits = law.limits;
}

pub decided : (s : Script) (r : Report) (b : Bool) → IsTreeLawful s r → AreUsesLawful s r → Decides b (AreNets s r) → Decides b (AreChargesLawful s r)
decided s r b tree uses d = (λ t. law_of s r tree uses (d.0 t), λ law. d.1 law.nets)
