-- SPDX-License-Identifier: GPL-2.0-only
use Rattle.shr_audit_walks.proofs.ScansCommon.{◌≡◌, List, ◌++◌, ap, ◌∙◌, get_or_from_slice_get, PlaceEnd, Entry, rows_of}
use Rattle.shr_audit_walks.proofs.scan_rows.note_list.Goals as goal

pub returns-in_ok-note_journal : goal.returns-in_ok-note_journal
returns-in_ok-note_journal c = record {
  first = λ end at first.
      let here = get_or_from_slice_get c.args.ends.now c.args.k end c.index-ends-k.result at in
      let entries : c.as_slice.result.now ≡ end.entries.items = c.as_slice.ensures ∙ ap (λ (x : PlaceEnd). x.entries.items) (get_or_from_slice_get c.args.ends.now c.args.k end _ at) in
      c.in_ok-note_journal.ensures ∙ ap (λ (x : PlaceEnd). c.args.rows.now.items ++ rows_of x.place c.as_slice.result.now) here ∙ ap (λ (es : List Entry). c.args.rows.now.items ++ rows_of end.place es) entries;
  later = λ end at later. absurd (later ((c.is_first.ensures end at).0 c.if-is_first.true));
}
