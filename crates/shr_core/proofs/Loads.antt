-- SPDX-License-Identifier: GPL-2.0-only
-- Loads of count words and bit words keep the rule.
use Rattle.shr_core.proofs.Common.{◌≡◌, ℕ, ◌+◌, ◌*◌, ◌/◌, ◌<◌, ◌≤◌, Bool, true, false, cond, eqb, List, [], length, map, set, get_or, sym, refl, ap, subst, ◌∙◌, arith, eq-eqb, ne_eqb, length-append, bit_at, dite, ℕ_discrete, keeps, Allows, Entry, without, Begins, times-without_other, View, Setting, Marks, Claims, row_in, counts_in, bits_in, looks_in, is_row, places_in, length_of, version_of, sizes_of, Sound, IsInside, items_now, AreMarks, phases, marks_of, traces_of, claims_of, Sat, with_count, with_drained, with_map}
use Rattle.std.proofs.lemmas.List.{nil_from_length}
use Rattle.shr_core.specs.Tells.{count_loaded, empty_loaded, mapped}
use Rattle.shr_core.proofs.Ordering as ordering
use Rattle.shr_core.proofs.Frames.{here, on_load, unmoved, state, lists_stay, rooms_stay, traces_stay, marks_stay, lookups_stay, owned_stay, turns_stay, dated_stay, seats_stay}
use Rattle.shr_core.proofs.Laying.{inside_is, count_read, bits_read}
use Rattle.shr_core.proofs.Marking as marking
use Rattle.shr_core.proofs.Claiming as claiming
use Rattle.shr_core.proofs.Owning as owning
use Rattle.shr_core.proofs.Tracing.{count_fields, count_seen, sees, made_below}

-- the beginning of a list is no longer than it
pub begins_le : (xs ys : List Entry) → Begins xs ys → length xs ≤ length ys
begins_le xs ys b = omega (arith, ap (λ (l : List Entry). length l) b.1, length-append xs b.0)

-- a load of a count word is a step that the rule allows
pub counts : (key : Setting) (n id : ℕ) (m : Sat) (k : ℕ) → IsInside key.shape k → m.0.standing.gone ≡ false → Allows (Sound key) n id m (8 * row_in (sizes_of key.shape) k) (λ y. y) (count_loaded key.shape m k)
counts key n id m k inside present s o deep me _ =
    let word : ℕ = 8 * row_in (sizes_of key.shape) k in let found : ℕ = get_or s.words word 0 in let len : ℕ = length_of found in let version : ℕ = version_of found in let v : View = m.0 in let w : View = with_count v k len version in let r = o.rules in let ms : List Marks = map marks_of s.views in
    let sh = o.sized.shape in let ids : ℕ = key.shape.ids in let at = here s.views id v me traces_of in
    let read = count_read (sizes_of key.shape) s.words k (inside_is key.shape k inside) in
    let f = subst (λ (x : ℕ). (version_of x ≡ length (o.now k)) × (length_of x ≡ length (items_now o.now o.after k))) read (count_fields key.shape (counts_in (sizes_of key.shape) s.words) o.now o.after k r.counted sh.most_items inside.place) in
    let F : Bool → Type 0 = λ b. AreMarks ids (counts_in (sizes_of key.shape) s.words) (bits_in (sizes_of key.shape) s.words) (phases o.pool) (set ms id (record v.marks { owed = cond b (without k v.marks.owed) v.marks.owed })) in (
      w,
      keeps,
      tt,
      on_load key s o id w present (o.ended id v me) word (ordering.counts key.shape.ids key.first_lookup o.now o.pool (bits_in (sizes_of key.shape) s.words) (looks_in s.words) s.views id v me present o.ordered w (record { place = k; len = len; version = version }) refl refl refl f.0) record {
        counted = r.counted;
        roomed = rooms_stay key s o id v me;
        listed = lists_stay key s o id v me;
        traced = sees o.now o.after (map traces_of s.views) id v.traces (record { place = k; len = len; version = version }) at (count_seen o.now o.after k len version f.0 f.1) r.traced;
        marked = dite (ℕ_discrete len 0)
            (λ e. subst F (sym (eq-eqb len 0 e)) (marking.owes_less ids (counts_in (sizes_of key.shape) s.words) (bits_in (sizes_of key.shape) s.words) (phases o.pool) ms id v.marks (without k v.marks.owed) (here s.views id v me marks_of)
            (λ j live some-items. times-without_other j k v.marks.owed (λ d. absurd (omega (arith, some-items, e, read, ap (counts_in (sizes_of key.shape) s.words) d)))) r.marked))
            (λ ne. subst F (sym (ne_eqb len 0 ne)) (marks_stay key s o id v me));
        looked = lookups_stay key s o id v me;
        owned = owned_stay key s o id v me;
        turned = turns_stay key s o id v me;
        dated = dated_stay key s o id v me;
        seated = seats_stay key s o id v me;
      },
      (
        refl,
        record {
          known = λ j x e place. omega (arith, begins_le x.entries (o.now x.place) (r.traced.known id v.traces at j x e), ap (λ (y : ℕ). length (o.now y)) place, f.0);
          seen = λ j x e place. omega (arith, (r.traced.seen id v.traces at j x e).0, ap (λ (y : ℕ). length (o.now y)) place, f.0);
          made = λ j x e place. omega (arith, made_below o.now o.after (map traces_of s.views) id v.traces at r.traced j x e, ap (λ (y : ℕ). length (o.now y)) place, f.0);
          items = omega (arith, f.1, r.counted.items k);
          entries = omega (arith, f.0, r.counted.entries k);
        },
      ),
    )

-- a load of a count word that moves a quiet owner's mark over an empty list is a step that the rule
-- allows
pub empties : (key : Setting) (n id : ℕ) (m : Sat) (k : ℕ) → IsInside key.shape k → m.0.standing.gone ≡ false → Allows (Sound key) n id m (8 * row_in (sizes_of key.shape) k) (λ y. y) (empty_loaded m k)
empties key n id m k inside present s o deep me _ =
    let word : ℕ = 8 * row_in (sizes_of key.shape) k in let len : ℕ = length_of (get_or s.words word 0) in let v : View = m.0 in let w : View = with_drained v k in let r = o.rules in
    let c : Claims = v.claims in let cs : List Claims = map claims_of s.views in let at = here s.views id v me claims_of in
    let read = count_read (sizes_of key.shape) s.words k (inside_is key.shape k inside) in
    let items : len ≡ length (items_now o.now o.after k) = subst (λ (x : ℕ). length_of x ≡ length (items_now o.now o.after k)) read (count_fields key.shape (counts_in (sizes_of key.shape) s.words) o.now o.after k r.counted o.sized.shape.most_items inside.place).1 in
    let F : Bool → Type 0 = λ b. Sound key (state (set s.words word (get_or s.words word 0)) s.homes (set s.views id (cond b w v))) in (
      cond (eqb len 0) w v,
      keeps,
      tt,
      dite (ℕ_discrete len 0)
          (λ e. subst F (sym (eq-eqb len 0 e)) (on_load key s o id w present (o.ended id v me) word (ordering.stays key.shape.ids key.first_lookup o.now o.pool (bits_in (sizes_of key.shape) s.words) (looks_in s.words) s.views id v me present o.ordered w refl refl refl) record {
            counted = r.counted;
            roomed = rooms_stay key s o id v me;
            listed = lists_stay key s o id v me;
            traced = traces_stay key s o id v me;
            marked = marks_stay key s o id v me;
            looked = claiming.still key.shape.ids key.first_lookup (looks_in s.words) o.pool cs id c.owner c.quiet w.claims.drained c.loaded c at (r.looked.loaded id c at) r.looked;
            owned = owning.keeps_owner key.shape o.now o.after o.pool cs id c w.claims at refl (λ j d. omega arith)
                (λ j owner. owning.marks_fall key.shape o.now o.after cs c k j [] (sym (nil_from_length (items_now o.now o.after k) (sym items ∙ e))) owner (owning.own key.shape o.now o.after o.pool cs c j (r.owned.owner id c at j owner))) r.owned;
            turned = turns_stay key s o id v me;
            dated = dated_stay key s o id v me;
            seated = seats_stay key s o id v me;
          }))
          (λ ne. subst F (sym (ne_eqb len 0 ne)) (unmoved key s word id v me o)),
      refl,
    )

-- a load of a bit word is a step that the rule allows
pub maps : (key : Setting) (n id : ℕ) (m : Sat) (b unit : ℕ) → b < places_in key.shape.ids → is_row (sizes_of key.shape) b ≡ true → b / 1024 ≡ unit → m.0.standing.gone ≡ false → Allows (Sound key) n id m (8 * row_in (sizes_of key.shape) b + 2) (λ y. y) (mapped key.shape m b unit)
maps key n id m b unit near row is present s o deep me _ =
    let word : ℕ = 8 * row_in (sizes_of key.shape) b + 2 in let found : ℕ = get_or s.words word 0 in let v : View = m.0 in let w : View = with_map v b found in let r = o.rules in let read = bits_read (sizes_of key.shape) s.words b row in (
      w,
      keeps,
      tt,
      on_load key s o id w present (o.ended id v me) word (ordering.maps key.shape.ids key.first_lookup o.now o.pool (bits_in (sizes_of key.shape) s.words) (looks_in s.words) s.views id v me present o.ordered w (record { map = b; bits = found; set = v.marks.sets }) refl refl refl (sym read)) record {
        counted = r.counted;
        roomed = rooms_stay key s o id v me;
        listed = lists_stay key s o id v me;
        traced = traces_stay key s o id v me;
        marked = subst (λ (x : ℕ). AreMarks key.shape.ids (counts_in (sizes_of key.shape) s.words) (bits_in (sizes_of key.shape) s.words) (phases o.pool) (set (map marks_of s.views) id (with_map v b x).marks)) read
            (marking.maps key.shape.ids (counts_in (sizes_of key.shape) s.words) (bits_in (sizes_of key.shape) s.words) (phases o.pool) (map marks_of s.views) id b v.marks (here s.views id v me marks_of) near r.marked);
        looked = lookups_stay key s o id v me;
        owned = owned_stay key s o id v me;
        turned = turns_stay key s o id v me;
        dated = dated_stay key s o id v me;
        seated = seats_stay key s o id v me;
      },
      (refl, λ x small is-one. omega (arith, r.marked.none_else b x near small (ap (λ (y : ℕ). bit_at y x) read ∙ is-one), is)),
    )
