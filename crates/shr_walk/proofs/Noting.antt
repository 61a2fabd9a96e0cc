-- SPDX-License-Identifier: GPL-2.0-only
-- A try of a charge, over the state of its worker.
use Rattle.shr_walk.proofs.ChargingCommon.{◌≡◌, ℕ, ◌^◌, ◌<◌, ◌≤◌, List, [], ◌∷◌, ◌++◌, length, map, sym, ap, subst, ◌∙◌, arith, length-append, length-map, UseStep, Serial, depth_of, ChargeAnswer, Shape, ChargeOps, use_group, uses_of, tree_of, Uses, Shared, Does, state_of, does_none, IsChargeTried, charge_work, ◌*◌, Charges, TreeView}
use Rattle.shr_charge.specs.declared.answers.ChargeAnswer.TheVariants as charge
use Rattle.shr_base.specs.Kept.{Kept}
use Rattle.shr_charge.specs.Seat.{ChargeSeated}
use Rattle.shr_walk.specs.declared.seats.Seats.{Seats}
use Rattle.shr_charge.proofs.Ways.{way_short}

-- a charge makes at most two operations on each level
pub few_ops : (k : Shape) (by : Serial) (group : ℕ) (a : ChargeAnswer) (ops : List UseStep) → ChargeOps k by group a ops → length ops ≤ 2 * depth_of k.parents.items group
few_ops k by group charge.Charged ops h = let n = sym (length-map ops use_group) ∙ ap (λ l. length l) h.at in omega (arith, n)
few_ops k by group (charge.Over g operation usage) ops h =
    let whole = ap (λ l. length l) h.whole ∙ length-append h.ups (h.over ∷ h.downs) in
    let up = ap (λ l. length l) h.levels in
    let ups = length-append (map use_group h.ups) (h.over.group ∷ []) in
    let each = length-map h.ups use_group in
    let down = sym (length-map h.downs use_group) ∙ ap (λ l. length l) h.taken_back.at in
    let short = way_short k.parents.items group g in
    omega (arith, whole, up, ups, each, down, short)

-- the operations of a charge are all that a try adds
pub tried_once : (x : Shared) (by : Serial) (group : ℕ) (answer : ChargeAnswer) (s : Seats) (seat : ChargeSeated) (before after : Kept UseStep) → before.items ≡ s.cache.uses.items → Charges x.charge.shape by group answer s.cache.charge seat before after
    → IsChargeTried x by group answer (state_of s) (record (state_of s) { uses = uses_of seat; tree = tree_of seat; noted = after.items })
tried_once x by group answer s seat before after same did = let n = does_none (state_of s) in let noted = did.noted in let now = record (state_of s) { uses = uses_of seat; tree = tree_of s.cache.charge; noted = after.items } in
    let does : Does (state_of s) now (charge_work did.ops) = record {
      core = n.core;
      uses = noted.gains;
      noted = noted.noted ∙ ap (λ (l : List UseStep). l ++ did.ops) same;
      words = n.words;
      tree = n.tree;
      gives = n.gives;
      known = n.known;
      heard = n.heard;
      hand = n.hand;
      rise = noted.rise;
      few = λ f. subst (λ (u : Uses). u.uncharges < 2 ^ 25) (sym noted.gains) (omega (arith, f));
      moves = n.moves;
      walks = n.walks;
      carries = n.carries;
    } in record { ops = did.ops; does = subst (λ (t : TreeView). Does (state_of s) (record now { tree = t }) (charge_work did.ops)) (sym noted.tree) does; made = did.made }
