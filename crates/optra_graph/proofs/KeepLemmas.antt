-- Graphs that are found by the numbers of their path specifications, and what changes where one more is kept.
use Rattle.std.proofs.Common.{◌≡◌, ℕ, ◌+◌, ◌<◌, ◌⊎◌, inl, inr, Bool, true, false, List, [], ◌∷◌, ◌++◌, length, get_or, map, slice_get, position, take, Option, None, Some, refl, sym, ap, ◌∙◌, subst, arith, All, Contains, is_some, option_map, bytes_eq, length-append, true≢false, cond, ◌||◌, ◌≢◌, ◌↔◌, IsTrue, Vec}
use Rattle.std.proofs.lemmas.List.{length-map, map-append, get_or_at, get_or_default, get_or-map}
use Rattle.std.proofs.lemmas.List.Elements.{All-push, All-more, All-weaker, Contains-push, Contains-append_left, Contains-get_or, All-contains, All-contains_itself}
use Rattle.std.proofs.lemmas.List.Quantifiers.{all_pairs_push}
use Rattle.std.proofs.lemmas.Option.{slice_get-map, slice_get-get_or}
use Rattle.std.specs.List.{list_any}
use Rattle.std.specs.Map.{keys_of, lookup}
use Rattle.std.specs.declared.alloc.Global.{Global}
use Rattle.optra_bid.specs.Specs.{Path}
use Rattle.optra_bid.specs.declared.bids.Bid.{Bid}
use Rattle.optra_network.proofs.NamesLemmas.{list_any-position, position-map}
use Rattle.optra_network.specs.Names.{AllDiffer}
use Rattle.optra_network.specs.Net.{Net}
use Rattle.optra_graph.specs.GraphMaps.{AreKeyed, kept_in, kept_of, place_of}
use Rattle.optra_graph.specs.Keys.{numbers_of}
use Rattle.optra_graph.specs.Served.{Kept, path_of, Grows, IsKept, IsServed}
use Rattle.optra_graph.specs.Timed.{Timed}
use Rattle.optra_graph.specs.declared.graph_map.Entry.{Entry}
use Rattle.optra_graph.proofs.KeyLemmas.{place-none, place-some}

-- ---- the map

abbrev pub Slot : Type 0
Slot = Vec ℕ Global × Entry

-- a look-up by numbers finds the place of the path specification
pub place-keyed : (entries : List Slot) (path : Path) (numbers : List ℕ) → AreKeyed entries → numbers ≡ numbers_of path
    → position (λ (k : Vec ℕ Global). bytes_eq numbers k.items) (keys_of entries) ≡ place_of path (map path_of (kept_in entries))
place-keyed entries path numbers keyed same =
    position-map (λ (entry : Slot). entry.0) (λ (k : Vec ℕ Global). bytes_eq numbers k.items) entries
    ∙ sym (position-map (λ (entry : Slot). entry.0.items) (bytes_eq numbers) entries)
    ∙ ap (position (bytes_eq numbers)) keyed
    ∙ position-map (λ (entry : Slot). numbers_of entry.1.path) (bytes_eq numbers) entries
    ∙ (λ i. position (λ (entry : Slot). bytes_eq (same i) (numbers_of entry.1.path)) entries)
    ∙ sym (position-map kept_of (λ (kept : Kept). bytes_eq (numbers_of path) (numbers_of kept.path)) entries)
    ∙ sym (position-map path_of (λ (p : Path). bytes_eq (numbers_of path) (numbers_of p)) (kept_in entries))

-- a test that no key has a place by finds no entry
lookup-any : (test : Vec ℕ Global → Bool) (entries : List Slot) → is_some (lookup test entries) ≡ list_any test (keys_of entries)
lookup-any test [] = refl
lookup-any test (e ∷ es) =
    elim (test e.0) as (λ b. is_some (cond b (Some e.1) (lookup test es)) ≡ (b || list_any test (keys_of es))) [ true ↦ refl | false ↦ lookup-any test es ]

is-none : {X : Type 0} (o : Option X) → is_some o ≡ false → o ≡ None
is-none None h = refl
is-none (Some x) h = absurd (true≢false h)

-- a path specification that has no place has no entry under a key of its numbers
pub lookup-absent : (entries : List Slot) (path : Path) (key : Vec ℕ Global) → AreKeyed entries → key.items ≡ numbers_of path
    → place_of path (map path_of (kept_in entries)) ≡ None → lookup (λ (k : Vec ℕ Global). bytes_eq key.items k.items) entries ≡ None
lookup-absent entries path key keyed same absent =
    let test = λ (k : Vec ℕ Global). bytes_eq key.items k.items in
    is-none (lookup test entries)
    (lookup-any test entries ∙ sym (list_any-position test (keys_of entries)) ∙ ap is_some (place-keyed entries path key.items keyed same ∙ absent))

-- one more entry
pub keyed-push : (entries : List Slot) (entry : Slot) → AreKeyed entries → entry.0.items ≡ numbers_of entry.1.path → AreKeyed (entries ++ entry ∷ [])
keyed-push entries entry keyed same =
    map-append (λ (e : Slot). e.0.items) entries (entry ∷ [])
    ∙ (λ i. keyed i ++ same i ∷ [])
    ∙ sym (map-append (λ (e : Slot). numbers_of e.1.path) entries (entry ∷ []))

pub kept-push : (entries : List Slot) (entry : Slot) → kept_in (entries ++ entry ∷ []) ≡ kept_in entries ++ kept_of entry ∷ []
kept-push entries entry = map-append kept_of entries (entry ∷ [])

-- ---- what is found

-- a path specification that has a place is held there
pub path-at : (kept : List Kept) (place : ℕ) (path : Path) → place_of path (map path_of kept) ≡ Some place → option_map path_of (slice_get kept place) ≡ Some path
path-at kept place path e =
    let at = place-some path (map path_of kept) place e in
    sym (slice_get-map path_of kept place) ∙ slice_get-get_or (map path_of kept) place path at.0 ∙ ap Some at.1

pub place-within : (kept : List Kept) (place : ℕ) (path : Path) → place_of path (map path_of kept) ≡ Some place → place < length kept
place-within kept place path e = omega (arith, (place-some path (map path_of kept) place e).0, length-map kept path_of)

pub contains-place : (kept : List Kept) (place : ℕ) (path : Path) → place_of path (map path_of kept) ≡ Some place → Contains (map path_of kept) path
contains-place kept place path e = let at = place-some path (map path_of kept) place e in (place, at.0, at.1)

pub holds-place : (kept : List Kept) (r : Option ℕ) (path : Path) → r ≡ place_of path (map path_of kept) → IsTrue (is_some r) ↔ Contains (map path_of kept) path
holds-place kept None path e = (λ h. absurd (true≢false (sym h)), λ h. absurd (place-none path (map path_of kept) (sym e) h))
holds-place kept (Some place) path e = (λ h. contains-place kept place path (sym e), λ h. refl)

-- the graph there is that of the path specification
pub graph-at : (kept : List Kept) (place : ℕ) (path : Path) (graph : Timed) → place_of path (map path_of kept) ≡ Some place → option_map (λ (k : Kept). k.graph) (slice_get kept place) ≡ Some graph
    → Contains kept (record { path = path; graph = graph })
graph-at kept place path graph e g =
    let d : Kept = record { path = path; graph = graph } in
    let within = place-within kept place path e in
    let read = slice_get-get_or kept place d within in
    let p : Some (get_or kept place d).path ≡ Some path = sym (ap (option_map path_of) read) ∙ path-at kept place path e in
    let q : Some (get_or kept place d).graph ≡ Some graph = sym (ap (option_map (λ (k : Kept). k.graph)) read) ∙ g in
    let same_path : (get_or kept place d).path ≡ path = cc in
    let same_graph : (get_or kept place d).graph ≡ graph = cc in
    (place, within, λ i. record { path = same_path i; graph = same_graph i })

-- a new graph is found at its place, which comes last
pub added-at : (kept new : List Kept) (place : ℕ) (path : Path) (graph : Timed) → new ≡ kept ++ record { path = path; graph = graph } ∷ [] → place ≡ length kept
    → option_map path_of (slice_get new place) ≡ Some path
added-at kept new place path graph e at =
    let k : Kept = record { path = path; graph = graph } in
    let long : length (kept ++ k ∷ []) ≡ length kept + 1 = length-append kept (k ∷ []) in
    ap (option_map path_of) (ap (λ (l : List Kept). slice_get l place) e ∙ slice_get-get_or (kept ++ k ∷ []) place k (omega arith) ∙ ap Some (get_or_at kept k [] k place (sym at)))

-- ---- what keeping changes

-- one more path specification
pub grows-kept : (net : Net) (path : Path) (old new : List Kept) (built rebuilt : ℕ) → IsKept net path old built new rebuilt → Grows net old built new rebuilt
grows-kept net path old new built rebuilt (inl (there, same, count)) = record {
  kept = subst (λ (l : List Kept). All (Contains (map path_of l)) (map path_of old)) (sym same) (All-contains_itself (map path_of old));
  served = λ h. subst (All (IsServed net)) (sym same) h;
  differ = λ h. subst (λ (l : List Kept). AllDiffer (map path_of l)) (sym same) h;
  counted = λ h. count ∙ h ∙ ap length (sym same);
}
grows-kept net path old new built rebuilt (inr a) =
    let k : Kept = record { path = path; graph = a.graph } in
    let paths : map path_of new ≡ map path_of old ++ path ∷ [] = ap (map path_of) a.added ∙ map-append path_of old (k ∷ []) in
    let long : length new ≡ length old + 1 = ap length a.added ∙ length-append old (k ∷ []) in
    record {
      kept = subst (λ (ps : List Path). All (Contains ps) (map path_of old)) (sym paths) (λ i d l. Contains-append_left (map path_of old) (path ∷ []) (get_or (map path_of old) i d) (Contains-get_or (map path_of old) i d l));
      served = λ h. subst (All (IsServed net)) (sym a.added) (All-push (IsServed net) old k h a.is_graph);
      differ = λ h. subst AllDiffer (sym paths) (all_pairs_push (λ (p q : Path). p ≢ q) (map path_of old) path h (λ i d l e. a.absent (i, l, get_or_default (map path_of old) i path d l ∙ e)));
      counted = λ h. omega (arith, a.counted, a.few, long, h);
    }

pub grows-on : (net : Net) (a b c : List Kept) (m n o : ℕ) → Grows net a m b n → Grows net b n c o → Grows net a m c o
grows-on net a b c m n o g h = record {
  kept = λ i d l. All-contains (Contains (map path_of c)) (map path_of b) (get_or (map path_of a) i d) h.kept (g.kept i d l);
  served = λ s. h.served (g.served s);
  differ = λ s. h.differ (g.differ s);
  counted = λ s. h.counted (g.counted s);
}

pub grows-same : (net : Net) (a : List Kept) (m : ℕ) → Grows net a m a m
grows-same net a m = record { kept = All-contains_itself (map path_of a); served = λ h. h; differ = λ h. h; counted = λ h. h }

-- what is held after one more path specification: itself, and all that was held
pub kept-held : (net : Net) (path : Path) (old new : List Kept) (built rebuilt : ℕ) → IsKept net path old built new rebuilt → Contains (map path_of new) path
kept-held net path old new built rebuilt (inl (there, same, count)) = subst (λ (l : List Kept). Contains (map path_of l) path) (sym same) there
kept-held net path old new built rebuilt (inr a) =
    let k : Kept = record { path = path; graph = a.graph } in
    subst (λ (ps : List Path). Contains ps path) (sym (ap (map path_of) a.added ∙ map-append path_of old (k ∷ []))) (Contains-push (map path_of old) path)

-- and nothing else
pub kept-others : (net : Net) (path : Path) (old new : List Kept) (built rebuilt : ℕ) (P : Path → Type 0) → IsKept net path old built new rebuilt → P path → All P (map path_of old) → All P (map path_of new)
kept-others net path old new built rebuilt P (inl (there, same, count)) h all = subst (λ (l : List Kept). All P (map path_of l)) (sym same) all
kept-others net path old new built rebuilt P (inr a) h all =
    let k : Kept = record { path = path; graph = a.graph } in
    subst (All P) (sym (ap (map path_of) a.added ∙ map-append path_of old (k ∷ []))) (All-push P (map path_of old) path all h)

-- ---- a loop over bids

-- one more bid
pub held-more : (net : Net) (bids : List Bid) (i : ℕ) (bid : Bid) (old new : List Kept) (built rebuilt : ℕ) → i < length bids → bid ≡ get_or bids i bid → IsKept net bid.path old built new rebuilt
    → All (λ (b : Bid). Contains (map path_of old) b.path) (take i bids) → All (λ (b : Bid). Contains (map path_of new) b.path) (take (i + 1) bids)
held-more net bids i bid old new built rebuilt l is kept all =
    let g = grows-kept net bid.path old new built rebuilt kept in
    All-more (λ (b : Bid). Contains (map path_of new) b.path) bids i bid l
    (All-weaker (λ (b : Bid). Contains (map path_of old) b.path) (λ (b : Bid). Contains (map path_of new) b.path) (λ b h. All-contains (Contains (map path_of new)) (map path_of old) b.path g.kept h) (take i bids) all)
    (subst (λ (b : Bid). Contains (map path_of new) b.path) is (kept-held net bid.path old new built rebuilt kept))

pub others-more : (net : Net) (bids : List Bid) (i : ℕ) (bid : Bid) (first old new : List Kept) (built rebuilt : ℕ) → i < length bids → bid ≡ get_or bids i bid → IsKept net bid.path old built new rebuilt
    → All (λ (path : Path). Contains (map path_of first) path ⊎ Contains (map (λ (b : Bid). b.path) bids) path) (map path_of old)
    → All (λ (path : Path). Contains (map path_of first) path ⊎ Contains (map (λ (b : Bid). b.path) bids) path) (map path_of new)
others-more net bids i bid first old new built rebuilt l is kept all =
    kept-others net bid.path old new built rebuilt (λ (path : Path). Contains (map path_of first) path ⊎ Contains (map (λ (b : Bid). b.path) bids) path) kept
    (inr (i, omega (arith, length-map bids (λ (b : Bid). b.path)), get_or-map (λ (b : Bid). b.path) bids i bid bid.path l ∙ ap (λ (b : Bid). b.path) (sym is))) all

-- where nothing was held before, all that is held is of the bids
pub others-new : (first new : List Kept) (held : List Path) (bids : List Bid) → first ≡ []
    → All (λ (path : Path). Contains (map path_of first) path ⊎ Contains (map (λ (b : Bid). b.path) bids) path) (map path_of new)
    → All (λ (path : Path). Contains held path ⊎ Contains (map (λ (b : Bid). b.path) bids) path) (map path_of new)
others-new first new held bids none all k d l = by (get_or (map path_of new) k d) (all k d l)
  where
    nothing : (path : Path) → Contains (map path_of first) path → ⊥
    nothing path h = let c = subst (λ (l : List Kept). Contains (map path_of l) path) none h in omega (arith, c.1)

    by : (path : Path) → Contains (map path_of first) path ⊎ Contains (map (λ (b : Bid). b.path) bids) path → Contains held path ⊎ Contains (map (λ (b : Bid). b.path) bids) path
    by path (inl h) = absurd (nothing path h)
    by path (inr h) = inr h
