-- SPDX-License-Identifier: GPL-2.0-only
-- The sections whose lines stand one behind another: the head, the journals of registrations and of the tree, and the tables.
use Rattle.shr_audit_text.proofs.Common.{◌≡◌, ℕ, ◌<◌, ◌^◌, true, List, [], ◌∷◌, ◌++◌, flat_map, Some, refl, codes, AllByRecursion, PlaceAmount, PlaceEnd, UnitsEnd, WorkerPart, Report, line, numbered, numeral, numbered_group_line, numbered_cache_line, units_name_line, pool_entry_line, tree_line, bit_line, deferred_line, pool_deferred_line, use_line, lookups_line, totals, read_amount, IsBitWord, IsMapNumbered, IsAmountNumbered, IsPrintable, Printed, line_kind, kept, Said, ◌⊎◌, Totals, read_group, read_cache, read_tree, read_bit, read_use, read_lookups, read_version, read_size, read_total, read_pool_amount, IsPoolNumbered, IsTreeNumbered, IsShort, IsCountNumber, IsUseNumbered, printed_group, printed_cache, printed_tree, printed_bit, printed_deferred, printed_use, printed_lookups, printed_version, printed_size, printed_total, printed}
use Rattle.shr_model.specs.Pieces.{cut, pieces}
use Rattle.shr_model.specs.Paths.{is_path}
use Rattle.shr_model.specs.Words.{is_name}
use Rattle.shr_base.specs.declared.journals.PoolEntry.{PoolEntry}
use Rattle.shr_base.specs.declared.journals.PoolEntry.TheVariants as pool
use Rattle.shr_base.specs.declared.journals.TreeEntry.{TreeEntry}
use Rattle.shr_base.specs.declared.journals.TreeEntry.TheVariants as tree
use Rattle.shr_base.specs.declared.journals.UseStep.{UseStep}
use Rattle.shr_base.specs.declared.ends.MapEnd.{MapEnd}
use Rattle.shr_audit_text.specs.declared.said.Said.TheVariants as said
use Rattle.shr_audit_text.specs.declared.kinds.Kind.TheVariants as kind
use Rattle.shr_audit_text.specs.declared.kinds.PlainKind.TheVariants as plain
use Rattle.shr_report.proofs.Peel.{is_plain_word}
use Rattle.shr_report.proofs.Reading.{value, plain_numeral, plain_name}
use Rattle.shr_report.proofs.PlainLinesBack.{printed_pool_deferred}
use Rattle.shr_audit_text.specs.Said.{plain_kind_of, within_kind_of, is_entry, is_unit, pool_said}
use Rattle.shr_audit_text.proofs.Leads.{Leads, first_word, leads_printed, leads_items, leads_flat}

-- what stands before the workers, and how many nodes and ids there are
pub record Head : Type 0 where
  pub version : ℕ
  pub nodes : ℕ
  pub ids : ℕ
  pub groups : List (List ℕ)
  pub caches : List (List ℕ)
  pub pools : List (List ℕ)
  pub pool : List PoolEntry
  pub tree : List TreeEntry

-- what stands behind the lists
pub record Tail : Type 0 where
  pub maps : List MapEnd
  pub deferred : List PlaceAmount
  pub pool_deferred : List PlaceAmount
  pub uses : List UseStep
  pub lookups : List ℕ
  pub sums : Totals

-- a report of these parts
abbrev pub report_of : Head → List WorkerPart → List PlaceEnd → List UnitsEnd → Tail → Report
report_of h workers places units t = record {
  version = h.version;
  nodes = h.nodes;
  ids = h.ids;
  groups = kept h.groups;
  caches = kept h.caches;
  pools = kept h.pools;
  pool = kept h.pool;
  tree = kept h.tree;
  workers = kept workers;
  places = kept places;
  units = kept units;
  maps = kept t.maps;
  deferred = kept t.deferred;
  pool_deferred = kept t.pool_deferred;
  uses = kept t.uses;
  lookups = kept t.lookups;
  added = t.sums.added;
  freed = t.sums.freed;
  listed = t.sums.listed;
}

abbrev pub head : ℕ → ℕ → ℕ → List (List ℕ) → List (List ℕ) → List (List ℕ) → List PoolEntry → List TreeEntry → Head
head version nodes ids groups caches pools pool tree = record { version = version; nodes = nodes; ids = ids; groups = groups; caches = caches; pools = pools; pool = pool; tree = tree }

abbrev pub tail : List MapEnd → List PlaceAmount → List PlaceAmount → List UseStep → List ℕ → Totals → Tail
tail maps deferred pool_deferred uses lookups sums = record { maps = maps; deferred = deferred; pool_deferred = pool_deferred; uses = uses; lookups = lookups; sums = sums }

-- nothing behind the lists
abbrev pub no_tail : Tail
no_tail = tail [] [] [] [] [] (totals 0 0 0)

-- ---- the head

pub lead_version : (version : ℕ) → version < 2 ^ 8 → Leads (line (codes "report") (numeral version ∷ [])) (report_of (head 0 0 0 [] [] [] [] []) [] [] [] no_tail) (report_of (head version 0 0 [] [] [] [] []) [] [] [] no_tail)
unfolding first_word cut pieces plain_kind_of
lead_version version fits = leads_printed read_version version (line (codes "report") (numeral version ∷ [])) (kind.Plain plain.Version) (λ n. said.Version n) (report_of (head 0 0 0 [] [] [] [] []) [] [] [] no_tail)
    (printed_version version) refl (λ f ws. refl) fits

pub lead_size : (version nodes ids : ℕ) → nodes < 2 ^ 8 → IsShort ids → Leads (line (codes "size") (numeral nodes ∷ numeral ids ∷ [])) (report_of (head version 0 0 [] [] [] [] []) [] [] [] no_tail) (report_of (head version nodes ids [] [] [] [] []) [] [] [] no_tail)
unfolding first_word cut pieces plain_kind_of
lead_size version nodes ids few fits = leads_printed read_size (totals nodes ids 0) (line (codes "size") (numeral nodes ∷ numeral ids ∷ [])) (kind.Plain plain.Sizes) (λ t. said.Sizes t.added t.freed) (report_of (head version 0 0 [] [] [] [] []) [] [] [] no_tail)
    (printed_size nodes ids) refl (λ f ws. refl) (few, fits)

pub lead_groups : (version nodes ids : ℕ) (xs : List (List ℕ)) → AllByRecursion (λ (w : List ℕ). is_path w ≡ true) xs → Leads (numbered numbered_group_line 0 xs) (report_of (head version nodes ids [] [] [] [] []) [] [] [] no_tail) (report_of (head version nodes ids xs [] [] [] []) [] [] [] no_tail)
unfolding first_word cut pieces plain_kind_of within_kind_of is_entry is_unit
lead_groups version nodes ids xs h = leads_items (λ ys. report_of (head version nodes ids ys [] [] [] []) [] [] [] no_tail) numbered_group_line (λ (w : List ℕ). is_path w ≡ true) one 0 xs [] h
  where
    one : (n : ℕ) (x : List ℕ) (done : List (List ℕ)) → is_path x ≡ true → Leads (numbered_group_line n x) (report_of (head version nodes ids done [] [] [] []) [] [] [] no_tail) (report_of (head version nodes ids (done ++ x ∷ []) [] [] [] []) [] [] [] no_tail)
    one n x done k = leads_printed read_group x (numbered_group_line n x) kind.Group (λ p. said.Group p) (report_of (head version nodes ids done [] [] [] []) [] [] [] no_tail) (printed_group n x k) refl (λ f ws. refl) tt

pub lead_caches : (version nodes ids : ℕ) (groups xs : List (List ℕ)) → AllByRecursion (λ (w : List ℕ). is_name w ≡ true) xs → Leads (numbered numbered_cache_line 0 xs) (report_of (head version nodes ids groups [] [] [] []) [] [] [] no_tail) (report_of (head version nodes ids groups xs [] [] []) [] [] [] no_tail)
unfolding first_word cut pieces plain_kind_of within_kind_of is_entry is_unit
lead_caches version nodes ids groups xs h = leads_items (λ ys. report_of (head version nodes ids groups ys [] [] []) [] [] [] no_tail) numbered_cache_line (λ (w : List ℕ). is_name w ≡ true) one 0 xs [] h
  where
    one : (n : ℕ) (x : List ℕ) (done : List (List ℕ)) → is_name x ≡ true → Leads (numbered_cache_line n x) (report_of (head version nodes ids groups done [] [] []) [] [] [] no_tail) (report_of (head version nodes ids groups (done ++ x ∷ []) [] [] []) [] [] [] no_tail)
    one n x done k = leads_printed read_cache x (numbered_cache_line n x) kind.Cache (λ p. said.Cache p) (report_of (head version nodes ids groups done [] [] []) [] [] [] no_tail) (printed_cache n x k) refl (λ f ws. refl) tt

-- what a line that begins with `pool` says, behind its first word
abbrev said_of_pool : List ℕ → List (List ℕ) → Said
said_of_pool f ws = pool_said ws

-- the line of a pool of units has two words there, and that of a registration more
said_name : (n : ℕ) (w : List ℕ) → is_name w ≡ true → Printed Said said_of_pool (said.PoolName w) (units_name_line n w)
unfolding is_plain_word
said_name n w h = printed said_of_pool (said.PoolName w) (codes "pool") (numeral n ∷ w ∷ []) (simp (plain_numeral, plain_name w h)) refl

said_entry : (n : ℕ) (e : PoolEntry) → Printed Said said_of_pool (said.Pool e) (pool_entry_line n e)
unfolding is_plain_word
said_entry n (pool.Registered decl id from) = printed said_of_pool (said.Pool (pool.Registered decl id from)) (codes "pool") (numeral n ∷ codes "registered" ∷ numeral decl ∷ numeral id ∷ numeral from ∷ []) (simp plain_numeral) (simp value)
said_entry n (pool.Unregistered decl id to) = printed said_of_pool (said.Pool (pool.Unregistered decl id to)) (codes "pool") (numeral n ∷ codes "unregistered" ∷ numeral decl ∷ numeral id ∷ numeral to ∷ []) (simp plain_numeral) (simp value)
said_entry n (pool.Idle id) = printed said_of_pool (said.Pool (pool.Idle id)) (codes "pool") (numeral n ∷ codes "idle" ∷ numeral id ∷ []) (simp plain_numeral) (simp value)

pub lead_names : (version nodes ids : ℕ) (groups caches xs : List (List ℕ)) → AllByRecursion (λ (w : List ℕ). is_name w ≡ true) xs → Leads (numbered units_name_line 0 xs) (report_of (head version nodes ids groups caches [] [] []) [] [] [] no_tail) (report_of (head version nodes ids groups caches xs [] []) [] [] [] no_tail)
unfolding first_word cut pieces plain_kind_of within_kind_of is_entry is_unit
lead_names version nodes ids groups caches xs h = leads_items (λ ys. report_of (head version nodes ids groups caches ys [] []) [] [] [] no_tail) units_name_line (λ (w : List ℕ). is_name w ≡ true) one 0 xs [] h
  where
    one : (n : ℕ) (x : List ℕ) (done : List (List ℕ)) → is_name x ≡ true → Leads (units_name_line n x) (report_of (head version nodes ids groups caches done [] []) [] [] [] no_tail) (report_of (head version nodes ids groups caches (done ++ x ∷ []) [] []) [] [] [] no_tail)
    one n x done k = leads_printed said_of_pool (said.PoolName x) (units_name_line n x) kind.Pool (λ s. s) (report_of (head version nodes ids groups caches done [] []) [] [] [] no_tail) (said_name n x k) refl (λ f ws. refl) tt

pool_word : (n : ℕ) (e : PoolEntry) → line_kind (first_word (pool_entry_line n e ++ [])) ≡ Some kind.Pool
unfolding first_word cut pieces plain_kind_of within_kind_of is_entry is_unit
pool_word n (pool.Registered decl id from) = refl
pool_word n (pool.Unregistered decl id to) = refl
pool_word n (pool.Idle id) = refl

pub lead_pool : (version nodes ids : ℕ) (groups caches names : List (List ℕ)) (xs : List PoolEntry) → AllByRecursion IsPoolNumbered xs → Leads (numbered pool_entry_line 0 xs) (report_of (head version nodes ids groups caches names [] []) [] [] [] no_tail) (report_of (head version nodes ids groups caches names xs []) [] [] [] no_tail)
lead_pool version nodes ids groups caches names xs h = leads_items (λ ys. report_of (head version nodes ids groups caches names ys []) [] [] [] no_tail) pool_entry_line IsPoolNumbered one 0 xs [] h
  where
    one : (n : ℕ) (x : PoolEntry) (done : List PoolEntry) → IsPoolNumbered x → Leads (pool_entry_line n x) (report_of (head version nodes ids groups caches names done []) [] [] [] no_tail) (report_of (head version nodes ids groups caches names (done ++ x ∷ []) []) [] [] [] no_tail)
    one n x done k = leads_printed said_of_pool (said.Pool x) (pool_entry_line n x) kind.Pool (λ s. s) (report_of (head version nodes ids groups caches names done []) [] [] [] no_tail) (said_entry n x) (pool_word n x) (λ f ws. refl) k

tree_word : (n : ℕ) (e : TreeEntry) → line_kind (first_word (tree_line n e ++ [])) ≡ Some (kind.Plain plain.Tree)
unfolding first_word cut pieces plain_kind_of
tree_word n (tree.Begin group) = refl
tree_word n (tree.Done group) = refl
tree_word n (tree.Made group) = refl

pub lead_tree : (version nodes ids : ℕ) (groups caches names : List (List ℕ)) (entries : List PoolEntry) (xs : List TreeEntry) → AllByRecursion IsTreeNumbered xs → Leads (numbered tree_line 0 xs) (report_of (head version nodes ids groups caches names entries []) [] [] [] no_tail) (report_of (head version nodes ids groups caches names entries xs) [] [] [] no_tail)
lead_tree version nodes ids groups caches names entries xs h = leads_items (λ ys. report_of (head version nodes ids groups caches names entries ys) [] [] [] no_tail) tree_line IsTreeNumbered one 0 xs [] h
  where
    one : (n : ℕ) (x : TreeEntry) (done : List TreeEntry) → IsTreeNumbered x → Leads (tree_line n x) (report_of (head version nodes ids groups caches names entries done) [] [] [] no_tail) (report_of (head version nodes ids groups caches names entries (done ++ x ∷ [])) [] [] [] no_tail)
    one n x done k = leads_printed read_tree x (tree_line n x) (kind.Plain plain.Tree) (λ e. said.Tree e) (report_of (head version nodes ids groups caches names entries done) [] [] [] no_tail) (printed_tree n x) (tree_word n x) (λ f ws. refl) k

-- ---- the tables

-- a bit word that is printed, with its numbers
abbrev pub IsBit : ℕ → MapEnd → Type 0
IsBit version m = IsPrintable version m × IsMapNumbered m

-- a pool's deferred word, with its numbers
abbrev pub IsPoolWord : PlaceAmount → Type 0
IsPoolWord d = (d.place.group ≡ 0) × IsAmountNumbered d

pub lead_maps : (h : Head) (ws : List WorkerPart) (ps : List PlaceEnd) (us : List UnitsEnd) (xs : List MapEnd) → (h.version ≡ 1) ⊎ (h.version ≡ 2) → AllByRecursion (IsBit h.version) xs → Leads (flat_map (bit_line h.version) xs) (report_of h ws ps us no_tail) (report_of h ws ps us (tail xs [] [] [] [] (totals 0 0 0)))
unfolding first_word cut pieces plain_kind_of
lead_maps h ws ps us xs v all = leads_flat (λ ys. report_of h ws ps us (tail ys [] [] [] [] (totals 0 0 0))) (bit_line h.version) (IsBit h.version) one xs [] all
  where
    one : (x : MapEnd) (done : List MapEnd) → IsBit h.version x → Leads (bit_line h.version x) (report_of h ws ps us (tail done [] [] [] [] (totals 0 0 0))) (report_of h ws ps us (tail (done ++ x ∷ []) [] [] [] [] (totals 0 0 0)))
    one x done k = leads_printed (read_bit h.version) x (bit_line h.version x) (kind.Plain plain.Bit) (λ m. said.Bit m) (report_of h ws ps us (tail done [] [] [] [] (totals 0 0 0))) (printed_bit h.version x v k.0) refl (λ f ws. refl) k.1

pub lead_deferred : (h : Head) (ws : List WorkerPart) (ps : List PlaceEnd) (us : List UnitsEnd) (maps : List MapEnd) (xs : List PlaceAmount) → AllByRecursion IsAmountNumbered xs → Leads (flat_map deferred_line xs) (report_of h ws ps us (tail maps [] [] [] [] (totals 0 0 0))) (report_of h ws ps us (tail maps xs [] [] [] (totals 0 0 0)))
unfolding first_word cut pieces plain_kind_of
lead_deferred h ws ps us maps xs all = leads_flat (λ ys. report_of h ws ps us (tail maps ys [] [] [] (totals 0 0 0))) deferred_line IsAmountNumbered one xs [] all
  where
    one : (x : PlaceAmount) (done : List PlaceAmount) → IsAmountNumbered x → Leads (deferred_line x) (report_of h ws ps us (tail maps done [] [] [] (totals 0 0 0))) (report_of h ws ps us (tail maps (done ++ x ∷ []) [] [] [] (totals 0 0 0)))
    one x done k = leads_printed read_amount x (deferred_line x) (kind.Plain plain.Deferred) (λ d. said.Deferred d) (report_of h ws ps us (tail maps done [] [] [] (totals 0 0 0))) (printed_deferred x) refl (λ f ws. refl) k

pub lead_pool_words : (h : Head) (ws : List WorkerPart) (ps : List PlaceEnd) (us : List UnitsEnd) (maps : List MapEnd) (words xs : List PlaceAmount) → AllByRecursion IsPoolWord xs → Leads (flat_map pool_deferred_line xs) (report_of h ws ps us (tail maps words [] [] [] (totals 0 0 0))) (report_of h ws ps us (tail maps words xs [] [] (totals 0 0 0)))
unfolding first_word cut pieces plain_kind_of
lead_pool_words h ws ps us maps words xs all = leads_flat (λ ys. report_of h ws ps us (tail maps words ys [] [] (totals 0 0 0))) pool_deferred_line IsPoolWord one xs [] all
  where
    one : (x : PlaceAmount) (done : List PlaceAmount) → IsPoolWord x → Leads (pool_deferred_line x) (report_of h ws ps us (tail maps words done [] [] (totals 0 0 0))) (report_of h ws ps us (tail maps words (done ++ x ∷ []) [] [] (totals 0 0 0)))
    one x done k = leads_printed read_pool_amount x (pool_deferred_line x) (kind.Plain plain.PoolDeferred) (λ d. said.PoolDeferred d) (report_of h ws ps us (tail maps words done [] [] (totals 0 0 0))) (printed_pool_deferred x k.0) refl (λ f ws. refl) k.1

pub lead_uses : (h : Head) (ws : List WorkerPart) (ps : List PlaceEnd) (us : List UnitsEnd) (maps : List MapEnd) (words pools : List PlaceAmount) (xs : List UseStep) → AllByRecursion IsUseNumbered xs → Leads (flat_map use_line xs) (report_of h ws ps us (tail maps words pools [] [] (totals 0 0 0))) (report_of h ws ps us (tail maps words pools xs [] (totals 0 0 0)))
unfolding first_word cut pieces plain_kind_of
lead_uses h ws ps us maps words pools xs all = leads_flat (λ ys. report_of h ws ps us (tail maps words pools ys [] (totals 0 0 0))) use_line IsUseNumbered one xs [] all
  where
    one : (x : UseStep) (done : List UseStep) → IsUseNumbered x → Leads (use_line x) (report_of h ws ps us (tail maps words pools done [] (totals 0 0 0))) (report_of h ws ps us (tail maps words pools (done ++ x ∷ []) [] (totals 0 0 0)))
    one x done k = leads_printed read_use x (use_line x) (kind.Plain plain.Use) (λ u. said.Use u) (report_of h ws ps us (tail maps words pools done [] (totals 0 0 0))) (printed_use x) refl (λ f ws. refl) k

pub lead_lookups : (h : Head) (ws : List WorkerPart) (ps : List PlaceEnd) (us : List UnitsEnd) (maps : List MapEnd) (words pools : List PlaceAmount) (uses : List UseStep) (xs : List ℕ) → AllByRecursion IsCountNumber xs → Leads (numbered lookups_line 0 xs) (report_of h ws ps us (tail maps words pools uses [] (totals 0 0 0))) (report_of h ws ps us (tail maps words pools uses xs (totals 0 0 0)))
unfolding first_word cut pieces plain_kind_of
lead_lookups h ws ps us maps words pools uses xs all = leads_items (λ ys. report_of h ws ps us (tail maps words pools uses ys (totals 0 0 0))) lookups_line IsCountNumber one 0 xs [] all
  where
    one : (n : ℕ) (x : ℕ) (done : List ℕ) → IsCountNumber x → Leads (lookups_line n x) (report_of h ws ps us (tail maps words pools uses done (totals 0 0 0))) (report_of h ws ps us (tail maps words pools uses (done ++ x ∷ []) (totals 0 0 0)))
    one n x done k = leads_printed read_lookups x (lookups_line n x) (kind.Plain plain.Lookups) (λ l. said.Lookups l) (report_of h ws ps us (tail maps words pools uses done (totals 0 0 0))) (printed_lookups n x) refl (λ f ws. refl) k

pub lead_totals : (h : Head) (ws : List WorkerPart) (ps : List PlaceEnd) (us : List UnitsEnd) (maps : List MapEnd) (words pools : List PlaceAmount) (uses : List UseStep) (lookups : List ℕ) (added freed listed replies walks : ℕ) → IsBitWord added × IsBitWord freed × IsBitWord listed
    → Leads (line (codes "total") (numeral added ∷ numeral freed ∷ numeral listed ∷ numeral replies ∷ numeral walks ∷ [])) (report_of h ws ps us (tail maps words pools uses lookups (totals 0 0 0))) (report_of h ws ps us (tail maps words pools uses lookups (totals added freed listed)))
unfolding first_word cut pieces plain_kind_of
lead_totals h ws ps us maps words pools uses lookups added freed listed replies walks fits =
    leads_printed read_total (totals added freed listed) (line (codes "total") (numeral added ∷ numeral freed ∷ numeral listed ∷ numeral replies ∷ numeral walks ∷ [])) (kind.Plain plain.Totals) (λ t. said.Totals t.added t.freed t.listed)
    (report_of h ws ps us (tail maps words pools uses lookups (totals 0 0 0))) (printed_total added freed listed replies walks) refl (λ f ws. refl) fits
