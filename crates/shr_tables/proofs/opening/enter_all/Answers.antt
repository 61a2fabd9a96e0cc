-- SPDX-License-Identifier: GPL-2.0-only
use Rattle.shr_tables.proofs.Common.{◌≡◌, ◌<◌, ◌+◌, ℕ, ap, sym, refl, length, get_or, List, true, false, ◌∙◌, arith, Some, slice_get, nat_tests, CacheDecl, opener, view_of, content_of, within_of_valid, shape_of}
use Rattle.shr_charge.proofs.Listing.{get_here}
use Rattle.shr_core.specs.declared.table.Core.{Core}
use Rattle.shr_tables.proofs.Entering.{entered_more, entered_less, still_untried}
use Rattle.shr_tables.proofs.First.{entered_off, next_at, on_next, off_next, on_few}
use Rattle.shr_tables.proofs.opening.enter_all.Goals as goal

pub loop-decl-preserved : goal.loop-decl-preserved
loop-decl-preserved g c = let inv = c.loop-decl.invariant in let enters = c.in_ok-enter.ensures.enters in let cs : List CacheDecl = c.args.shared.now.script.caches.items in let n = c.loop-decl.decl in let item = c.index-caches-decl.result in
    let within : n < length cs = omega (arith, c.loop-decl-test.true, c.requires.shared.decls, ap (λ s. s.decls) c.shape.ensures) in
    let here : get_or cs n item ≡ item = ap (λ (l : List CacheDecl). get_or l n item) (sym inv.caches) ∙ sym c.index-caches-decl.is in
    let at : slice_get cs n ≡ Some item = get_here cs n item within ∙ ap Some here in
    let on : item.on ≡ true = grind (arith, nat_tests, c.if-not-caches-decl.false) in record {
      shared = refl;
      caches = inv.caches;
      table = c.enter.ensures.table ∙ inv.table;
      idle = c.enter.ensures.idle;
      standing = enters.gains.adds.standing ∙ inv.standing;
      untried = still_untried n (view_of c.loop-decl.seat) (view_of c.enter.new.seat) enters inv.untried;
      lower = c.in_ok-enter.ensures.entered;
      count = c.in_ok-enter.ensures.one_more ∙ ap (λ (k : ℕ). k + 1) inv.count ∙ sym (on_next cs n item (next_at cs n item within here) on);
      entered = entered_more cs n item opener (view_of c.loop-decl.seat) (view_of c.enter.new.seat) at on inv.entered enters;
    }

pub loop-decl-preserved-then-not-caches-decl : goal.loop-decl-preserved-then-not-caches-decl
loop-decl-preserved-then-not-caches-decl g c = let inv = c.loop-decl.invariant in let cs : List CacheDecl = c.args.shared.now.script.caches.items in let n = c.loop-decl.decl in let item = c.index-caches-decl.result in
    let within : n < length cs = omega (arith, c.loop-decl-test.true, c.requires.shared.decls, ap (λ s. s.decls) c.shape.ensures) in
    let here : get_or cs n item ≡ item = ap (λ (l : List CacheDecl). get_or l n item) (sym inv.caches) ∙ sym c.index-caches-decl.is in
    let at : slice_get cs n ≡ Some item = get_here cs n item within ∙ ap Some here in
    let off : item.on ≡ false = grind (arith, nat_tests, c.if-not-caches-decl.true) in record {
      shared = refl;
      caches = inv.caches;
      table = inv.table;
      idle = inv.idle;
      standing = inv.standing;
      untried = inv.untried;
      lower = entered_off n (view_of c.loop-decl.seat) inv.lower;
      count = inv.count ∙ sym (off_next cs n item (next_at cs n item within here) off);
      entered = entered_less cs n item opener (view_of c.loop-decl.seat) at off inv.entered;
    }

pub enter-requires-clause-room : goal.enter-requires-clause-room
enter-requires-clause-room g c = let inv = c.loop-decl.invariant in let cs : List CacheDecl = c.args.shared.now.script.caches.items in let n = c.loop-decl.decl in let item = c.index-caches-decl.result in
    let within : n < length cs = omega (arith, c.loop-decl-test.true, c.requires.shared.decls, ap (λ s. s.decls) c.shape.ensures) in
    let here : get_or cs n item ≡ item = ap (λ (l : List CacheDecl). get_or l n item) (sym inv.caches) ∙ sym c.index-caches-decl.is in
    let on : item.on ≡ true = grind (arith, nat_tests, c.if-not-caches-decl.false) in
    let count = inv.count in
    let next = on_next cs n item (next_at cs n item within here) on in
    let few = on_few cs (n + 1) (shape_of c.args.shared.now.core).ids (omega (arith, (within_of_valid (content_of c.args.shared.now.script) c.requires.shared.script).on, c.requires.shared.ids)) in
    let same = ap (λ (x : Core). (shape_of x).ids) inv.table in
    omega (arith, count, next, few, same)
