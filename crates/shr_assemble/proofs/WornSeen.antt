-- SPDX-License-Identifier: GPL-2.0-only
-- What a list or the charges of a worker were told to be is so of the step in which it was told.
use Rattle.shr_assemble.proofs.Common.{◌≡◌, ◌^◌, inl, inr, ⊎_elim, sym, subst, arith, Place, Spent, place_number, Shape, WornSeen, Script, IsThere, Step, IsAmong, IsWornBy}
use Rattle.shr_base.specs.declared.replies.Spent.TheVariants as spent
use Rattle.shr_lawful.proofs.Listed.{contains_among}

pub seen_worn : (s : Script) (shape : Shape) → shape.most_items ≡ 20000 → shape.most_entries ≡ 2 ^ 31 → (z : Step) (place : Place) → IsThere s place → (why : Spent) → WornSeen shape place why z.after → IsWornBy s z why
seen_worn s shape m n z place there (spent.List at entries items) h = record {
  there = subst (IsThere s) (sym h.here) there;
  over = ⊎_elim (λ p. inl (omega (arith, p, n))) (λ p. inr (omega (arith, p, m))) h.over;
  known = h.known;
  held = h.held;
  list = record { knows = subst (λ (q : Place). IsAmong (record { place = place_number q; entries = h.known }) z.after.core.traces.known) (sym h.here) (contains_among z.after.core.traces.known _ h.knows); journal = h.journal };
  one_more = h.one_more;
  most = inl h.there;
}
seen_worn s shape m n z place there (spent.Lookups id seen) h = absurd h
seen_worn s shape m n z place there (spent.Charges charges uncharges) h = record { over = h.over; charged = h.charged; uncharged = h.uncharged }
