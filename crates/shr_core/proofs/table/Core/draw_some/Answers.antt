-- SPDX-License-Identifier: GPL-2.0-only
use Rattle.shr_core.proofs.Common.{◌≡◌, ◌⊎◌, ℕ, ◌<◌, ap, sym, subst, ◌∙◌, inr, ⊎_elim, arith, LookupWord, lookups_of, word_in, last_lookups, Sat, MetLive, with_again, looked_again, Met, Shape, DrawsAgain, IsMet}
use Rattle.shr_core.proofs.table.Core.draw_some.Goals as goal

-- the first word has a number left where this one does
first_left : (first wanted : ℕ) (word : LookupWord) → word ≡ word_in wanted → word.lookups < 4294967040 → (wanted ≡ first) ⊎ (lookups_of first < last_lookups) → lookups_of first < last_lookups
first_left first wanted word is left = ⊎_elim (λ e. omega (arith, left, ap (λ (w : LookupWord). w.lookups) is, ap lookups_of e)) (λ h. h)

-- what was found where it was the word that was wanted
draws : (shape : Shape) (m old n : Sat) (met : Met) (first wanted found : ℕ) (word : LookupWord) → m ≡ old → word ≡ word_in wanted → IsMet shape old.0.turns.known met → word.phase ≡ met.phase → lookups_of first < last_lookups → found ≡ wanted → looked_again m met.id wanted found n → DrawsAgain old met first word.lookups n
draws shape m old n met first wanted found word same is known phase left hit told =
    let lives : MetLive old.0.turns.known met.id word.lookups word.decl = subst (λ (x : Sat). MetLive x.0.turns.known met.id word.lookups word.decl) same (subst (λ (w : LookupWord). MetLive m.0.turns.known met.id w.lookups w.decl) (sym is) (told.1 hit)) in
    let named : word.decl ≡ met.decl = lives.named ∙ sym known.named in record {
      found = word;
      left = left;
      live = omega (arith, phase, known.live);
      drawn = λ i. word.lookups;
      named = named;
      lives = subst (λ (d : ℕ). MetLive old.0.turns.known met.id word.lookups d) named lives;
      step = told.0 hit ∙ (ap (λ (w : LookupWord). (with_again m.0 met.id w, m.1)) (sym is) ∙ ap (λ (x : Sat). (with_again x.0 met.id word, x.1)) same);
    }

pub loop-preserved : goal.loop-preserved
loop-preserved c = let inv = c.loop.invariant in let e = c.draw_again-found.ensures in
    (e.id.0 ∙ inv.0, e.id.1 ∙ inv.1, e.drawn.2 c.if-found-wanted.false ∙ inv.2, inr (first_left c.args.first c.loop.wanted c.unpack-word.result c.unpack-word.ensures c.if-word-ge-LAST_LOOKUPS.false inv.3))

pub returns-then-found-wanted-clause-drawn : goal.returns-then-found-wanted-clause-drawn
returns-then-found-wanted-clause-drawn c = let inv = c.loop.invariant in
    draws c.args.self.now.setting.shape c.loop.token.me c.args.token.now.me c.draw_again-found.new.token.me c.args.met c.args.first c.loop.wanted c.draw_again-found.result c.unpack-word.result inv.2 c.unpack-word.ensures c.requires.met c.if-word-met.false
    (first_left c.args.first c.loop.wanted c.unpack-word.result c.unpack-word.ensures c.if-word-ge-LAST_LOOKUPS.false inv.3) c.if-found-wanted.true c.draw_again-found.ensures.drawn
