-- SPDX-License-Identifier: GPL-2.0-only
-- A lookup of an id that the seat met keeps the rule.
use Rattle.shr_core.proofs.Common.{◌≡◌, ℕ, zero, suc, ◌+◌, ◌*◌, ◌%◌, ◌^◌, ◌<◌, true, false, cond, eqb, List, [], ◌∷◌, map, length, set, get_or, sym, refl, ap, subst, ◌∙◌, arith, eq-eqb, same_Some, some, get_elem?, State, Act, Valid, keeps, Allows, stepped, carried_after, exchanged, LookupWord, PoolEntry, phase_of, decl_of, is_live, decl_at, Begins, Each-set, View, Slot, Setting, Claims, Dated, bits_in, looks_in, sizes_of, refs_of, lookups_of, phase_in, decl_in, word_in, Sound, HasOwnEnd, AreDated, AreLookupsOf, claims_of, turns_of, only_some, Sat, MetLive, with_again, looked_again, set_there}
use Rattle.shr_core.proofs.Options.{only_some_no}
use Rattle.std.specs.Prelude.{Some, None, Option as Maybe}
use prog.Atomic.{either}
use Rattle.shr_core.proofs.Ordering as ordering
use Rattle.shr_core.proofs.Frames.{here, on_look, state, unmoved, lists_stay, rooms_stay, traces_stay, marks_stay, seats_stay}
use Rattle.shr_core.proofs.Packing as packing
use Rattle.shr_core.proofs.Laying.{look_low}
use Rattle.shr_core.proofs.Claiming as claiming
use Rattle.shr_core.proofs.Owning as owning
use Rattle.shr_core.proofs.Turning as turning
use Rattle.shr_core.proofs.Dating as dating
use Rattle.shr_core.proofs.Lasting.{Lasts, lasts}
use Rattle.shr_core.proofs.LookupSteps.{look_here, look_else}

-- what is set twice is what was set last
set_twice : {A : Type 0} (xs : List A) (i : ℕ) (a b : A) → set (set xs i a) i b ≡ set xs i b
set_twice {A} [] i a b = refl
set_twice {A} (x ∷ xs) zero a b = refl
set_twice {A} (x ∷ xs) (suc i) a b = ap (λ (l : List A). x ∷ l) (set_twice xs i a b)

-- the word that was wanted was found, and shows the phase that the seat knows of the id
module _ (key : Setting) (s : State Slot View) (o : Sound key s) (id i wanted : ℕ) (v : View) (me : get_elem? s.views id ≡ some v) (near : i < key.shape.ids) (hit : looks_in s.words i ≡ wanted) (same : phase_in wanted ≡ phase_of i v.turns.known) where
  begins : Begins v.turns.known o.pool
  begins = o.rules.turned.known id v.turns (here s.views id v me turns_of)

  -- the id had no entry since
  still : Lasts i v.turns.known o.pool
  still = lasts i v.turns.known o.pool begins (sym (o.rules.looked.phase i near) ∙ (ap phase_in hit ∙ same))

  -- so the number lies in the registration that the seat knows
  pub lives : phase_in wanted % 3 ≡ 1 → MetLive v.turns.known i (lookups_of wanted) (decl_in wanted)
  lives one = let n : ℕ = lookups_of wanted in let q = o.rules.looked in let known : List PoolEntry = v.turns.known in
      let named : decl_in wanted ≡ decl_of i known = ap decl_in (sym hit) ∙ (q.decl i near ∙ still.decl) in
      let live : is_live i known ≡ true = eq-eqb (phase_of i known % 3) 1 (omega (arith, one, same)) in
      let live-pool : is_live i o.pool ≡ true = eq-eqb (phase_of i o.pool % 3) 1 (omega (arith, one, q.phase i near, ap phase_in hit)) in record {
        live = live;
        named = named;
        registered = ap (decl_at n) (sym still.uses) ∙ (q.edges i n near (omega (arith, ap lookups_of hit)) ∙ (ap {B = Maybe ℕ} (λ b. cond b (Some (decl_of i o.pool)) None) live-pool ∙ ap {B = Maybe ℕ} (λ (x : ℕ). Some x) (still.decl ∙ sym named)));
        began = omega (arith, still.from, q.began i near, ap lookups_of hit);
      }

  module _ (present : v.standing.gone ≡ false) (idle : v.claims.may ≡ None) (held : v.claims.held ≡ None) (probe : v.claims.probe ≡ None) (left : lookups_of wanted < 4294967040) (one : phase_in wanted % 3 ≡ 1) (fits : wanted < 18446744073709551616) where
    abbrev c : Claims
    c = v.claims

    abbrev cs : List Claims
    cs = map claims_of s.views

    abbrev word : LookupWord
    word = word_in wanted

    abbrev w : View
    w = with_again v i word

    abbrev new : ℕ
    new = (wanted + 257) % 18446744073709551616

    abbrev look' : ℕ → ℕ
    look' = looks_in (set s.words (8 * i + 3) new)

    at : get_elem? cs id ≡ some c
    at = here s.views id v me claims_of

    inside : 8 * i + 3 < length s.words
    inside = omega (arith, o.wide, look_low key.shape i o.sized.shape.some_nodes o.sized.shape.tree.has_root near)

    -- as if the seat had been let look up the id before
    abbrev let_in : Claims
    let_in = record c { may = Some i; quiet = c.quiet; loaded = c.loaded }

    allowed : AreLookupsOf key (looks_in s.words) o.pool (set cs id let_in)
    allowed = claiming.leaves key.shape.ids key.first_lookup (looks_in s.words) o.pool cs id i c.quiet c.loaded c at idle (omega (arith, left, ap lookups_of hit)) (o.rules.looked.loaded id c at) o.rules.looked

    at_let : get_elem? (set cs id let_in) id ≡ some let_in
    at_let = set_there cs id c let_in at

    fields : packing.Fields wanted new (refs_of wanted + 1) (lookups_of wanted + 1) (phase_in wanted) (decl_in wanted)
    fields = let space = claiming.space_left key.shape.ids key.first_lookup (looks_in s.words) o.pool (set cs id let_in) allowed id i let_in at_let near refl in
        packing.looks wanted fits (omega (arith, space.0, ap refs_of hit)) (omega (arith, left))

    is : look' i ≡ new
    is = look_here s.words i new inside

    more_lookups : lookups_of (look' i) ≡ lookups_of (looks_in s.words i) + 1
    more_lookups = ap lookups_of is ∙ (fields.lookups_is ∙ ap (λ (x : ℕ). lookups_of x + 1) (sym hit))

    more_refs : refs_of (look' i) ≡ refs_of (looks_in s.words i) + 1
    more_refs = ap refs_of is ∙ (fields.refs_is ∙ ap (λ (x : ℕ). refs_of x + 1) (sym hit))

    same_phase : phase_in (look' i) ≡ phase_in (looks_in s.words i)
    same_phase = ap phase_in is ∙ (fields.phase_is ∙ ap phase_in (sym hit))

    same_decl : decl_in (look' i) ≡ decl_in (looks_in s.words i)
    same_decl = ap decl_in is ∙ (fields.decl_is ∙ ap decl_in (sym hit))

    phase : word.phase ≡ phase_of i o.pool
    phase = ap phase_in (sym hit) ∙ o.rules.looked.phase i near

    looked_now : AreLookupsOf key look' o.pool (set cs id w.claims)
    looked_now = subst (AreLookupsOf key look' o.pool) (set_twice cs id let_in w.claims)
        (claiming.looks_up key.shape.ids key.first_lookup (looks_in s.words) look' o.pool (set cs id let_in) id i let_in word at_let near refl held probe (ap lookups_of (sym hit)) (ap phase_in (sym hit)) (ap decl_in (sym hit)) more_refs more_lookups same_phase same_decl (look_else s.words i new inside) allowed)

    abbrev new_date : Dated
    new_date = record { id = i; number = word.lookups; entries = length v.turns.known }

    dated_now : AreDated key.shape.ids look' o.pool (set (map turns_of s.views) id w.turns)
    dated_now = dating.again key.shape.ids look' o.pool (map turns_of s.views) id v.turns w.turns new_date (here s.views id v me turns_of) refl
        (record { near = near; below = omega (arith, more_lookups, ap lookups_of hit); entries = still.short; ended = still.ended word.lookups })
        (dating.rises key.shape.ids (looks_in s.words) look' o.pool (map turns_of s.views) i (omega (arith, more_lookups)) (look_else s.words i new inside) o.rules.dated)

    -- the rule holds once the number was drawn
    pub drawn : Sound key (state (set s.words (8 * i + 3) new) s.homes (set s.views id w))
    drawn = on_look key s o id w present o.pool (Each-set (HasOwnEnd o.pool) s.views id w (o.ended id v me) o.ended) i new
        (ordering.looks_up key.shape.ids key.first_lookup o.now o.pool (bits_in (sizes_of key.shape) s.words) (looks_in s.words) s.views id v me present o.ordered look' w i word near refl refl (ordering.no_refs c.held c.probe held probe) (ordering.one_ref i c.held c.probe (eqb (word.phase % 3) 1) held probe) held refl (ap lookups_of (sym hit)) phase (ap decl_in (sym hit) ∙ o.rules.looked.decl i near) more_lookups more_refs (look_else s.words i new inside)) record {
          counted = o.rules.counted;
          roomed = rooms_stay key s o id v me;
          listed = lists_stay key s o id v me;
          traced = traces_stay key s o id v me;
          marked = marks_stay key s o id v me;
          looked = looked_now;
          owned = owning.keeps_owner key.shape o.now o.after o.pool cs id c w.claims at refl
              (λ j dying. omega (arith, ap (λ b. only_some j (cond b (Some i) c.held)) (eq-eqb (word.phase % 3) 1 one), only_some_no j (Some i) (λ d. let known : i ≡ j = same_Some i j d in omega (arith, one, phase, dying, ap (λ x. phase_of x o.pool) known))))
              (λ j e. let t = owning.own key.shape o.now o.after o.pool cs c j (o.rules.owned.owner id c at j e) in record { quiet = t.quiet; nodes = t.nodes; unmoved = t.unmoved; drained = t.drained }) o.rules.owned;
          turned = turning.dates key.shape.ids key.shape.decls o.pool (map turns_of s.views) id w.turns.gives v.turns w.turns.dated (here s.views id v me turns_of) o.rules.turned;
          dated = dated_now;
          seated = seats_stay key s o id v me;
        }

-- the compare and exchange is a step that the rule allows
pub looks_again : (key : Setting) (n id : ℕ) (m : Sat) (i wanted : ℕ) → i < key.shape.ids → m.0.standing.gone ≡ false → m.0.claims.may ≡ None → m.0.claims.held ≡ None → m.0.claims.probe ≡ None → lookups_of wanted < 4294967040 → phase_in wanted ≡ phase_of i m.0.turns.known → phase_in wanted % 3 ≡ 1
    → Allows (Sound key) n id m (8 * i + 3) (λ y. either (eqb y wanted) ((wanted + 257) % 2 ^ 64) y) (looked_again m i wanted)
looks_again key n id m i wanted near present idle held probe left same one s o deep me fits =
    let found : ℕ = get_or s.words (8 * i + 3) 0 in let v : View = m.0 in
    let G : ℕ → Type 0 = λ k. (w : View) × (a : Act Slot) × Valid s.homes m.1 a × Sound key (stepped s (8 * i + 3) k id m.1 w a) × looked_again m i wanted found (w, carried_after m.1 a) in
    exchanged found wanted ((wanted + 257) % 18446744073709551616) G
    (λ hit. (
      with_again v i (word_in wanted),
      keeps,
      tt,
      drawn key s o id i wanted v me near hit same present idle held probe left one (omega (arith, hit, fits)),
      ((λ _. refl), (λ _. lives key s o id i wanted v me near hit same one), λ miss. absurd (miss hit)),
    ))
    (λ miss. (v, keeps, tt, unmoved key s (8 * i + 3) id v me o, ((λ hit. absurd (miss hit)), (λ hit. absurd (miss hit)), λ _. refl)))
