-- SPDX-License-Identifier: GPL-2.0-only
use Rattle.shr_audit_formed.proofs.Common.{◌<◌, List, length, subst, Decides, PlaceEnd, UnitsEnd, IsPlaceUpTo, units_place, EachItem, Adjacent, IsListFormed, AreListsFormed}
use Rattle.shr_audit_formed.proofs.Eachs.{fails}
use Rattle.shr_audit_formed.proofs.formed.are_lists_well.Goals as goal

pub returns-then-not-lists_are_well : goal.returns-then-not-lists_are_well
returns-then-not-lists_are_well c =
    let wells : Decides c.lists_are_well.result (EachItem IsListFormed c.args.report.now.places.items) = subst (λ (xs : List PlaceEnd). Decides c.lists_are_well.result (EachItem IsListFormed xs)) c.as_slice.ensures c.lists_are_well.ensures in
    fails (EachItem IsListFormed c.args.report.now.places.items) (AreListsFormed c.args.report.now) c.lists_are_well.result wells c.if-not-lists_are_well.true (λ h. h.0)

pub returns : goal.returns
returns c =
    let wells : Decides c.lists_are_well.result (EachItem IsListFormed c.args.report.now.places.items) = subst (λ (xs : List PlaceEnd). Decides c.lists_are_well.result (EachItem IsListFormed xs)) c.as_slice.ensures c.lists_are_well.ensures in
    let stand : Decides c.lists_stand.result (Adjacent (λ x y. IsPlaceUpTo x.place y.place) c.args.report.now.places.items) = subst (λ (xs : List PlaceEnd). Decides c.lists_stand.result (Adjacent (λ x y. IsPlaceUpTo x.place y.place) xs)) c.as_slice-2.ensures c.lists_stand.ensures in
    let entered : Decides c.units_are_entered.result (EachItem (λ u. 0 < length u.entries.items) c.args.report.now.units.items) = subst (λ (xs : List UnitsEnd). Decides c.units_are_entered.result (EachItem (λ u. 0 < length u.entries.items) xs)) c.as_slice-3.ensures c.units_are_entered.ensures in
    let units : Decides c.units_stand-stand.result (Adjacent (λ u v. IsPlaceUpTo (units_place u) (units_place v)) c.args.report.now.units.items) = subst (λ (xs : List UnitsEnd). Decides c.units_stand-stand.result (Adjacent (λ u v. IsPlaceUpTo (units_place u) (units_place v)) xs)) c.as_slice-4.ensures c.units_stand-stand.ensures in
    (λ t. (wells.0 c.if-not-lists_are_well.false, (stand.0 c.if-not-lists_stand.false, (entered.0 c.if-not-units_are_entered.false, units.0 t))), λ h. units.1 h.1.1.1)
