-- Path specifications and their numbers.
use Rattle.std.proofs.Common.{◌≡◌, ℕ, ◌<◌, true, List, [], ◌∷◌, length, get_or, None, Some, refl, sym, ap, ◌∙◌, Contains, is_some, bytes_eq, true≢false}
use Rattle.std.proofs.lemmas.List.Folds.{list_any_at}
use Rattle.std.proofs.lemmas.List.Quantifiers.{position-Some}
use Rattle.std.specs.Cmp.Lexicographic.{bytes_decides}
use Rattle.optra_bid.specs.Specs.{Path}
use Rattle.optra_bid.specs.declared.Stop.{Stop}
use Rattle.optra_network.proofs.NamesLemmas.{list_any-position}
use Rattle.optra_graph.specs.GraphMaps.{place_of}
use Rattle.optra_graph.specs.Keys.{stops_numbers, numbers_of}

-- the numbers of stops tell them
stops-tell : (a b : List Stop) → stops_numbers a ≡ stops_numbers b → a ≡ b
stops-tell [] [] h = refl
stops-tell [] (y ∷ ys) h = cc
stops-tell (x ∷ xs) [] h = cc
stops-tell (x ∷ xs) (y ∷ ys) h =
    let station : x.station.0 ≡ y.station.0 = cc in
    let least : x.min_dwell ≡ y.min_dwell = cc in
    let most : x.max_dwell ≡ y.max_dwell = cc in
    let early : x.arrive.from ≡ y.arrive.from = cc in
    let late : x.arrive.to ≡ y.arrive.to = cc in
    let rest : stops_numbers xs ≡ stops_numbers ys = cc in
    let others : xs ≡ ys = stops-tell xs ys rest in
    λ i. record { station = record { 0 = station i }; min_dwell = least i; max_dwell = most i; arrive = record { from = early i; to = late i } } ∷ others i

-- and those of a path specification tell it
pub numbers-tell : (p q : Path) → numbers_of p ≡ numbers_of q → p ≡ q
unfolding numbers_of
numbers-tell p q h =
    let kind : p.kind.0 ≡ q.kind.0 = cc in
    let origin : p.origin.0 ≡ q.origin.0 = cc in
    let destination : p.destination.0 ≡ q.destination.0 = cc in
    let wait_max : p.wait_max ≡ q.wait_max = cc in
    let depart_from : p.depart.from ≡ q.depart.from = cc in
    let depart_ideal : p.depart.ideal ≡ q.depart.ideal = cc in
    let depart_to : p.depart.to ≡ q.depart.to = cc in
    let arrive_from : p.arrive.from ≡ q.arrive.from = cc in
    let arrive_ideal : p.arrive.ideal ≡ q.arrive.ideal = cc in
    let arrive_to : p.arrive.to ≡ q.arrive.to = cc in
    let rest : stops_numbers p.stops ≡ stops_numbers q.stops = cc in
    let stops : p.stops ≡ q.stops = stops-tell p.stops q.stops rest in
    λ i. record {
      kind = record { 0 = kind i };
      origin = record { 0 = origin i };
      destination = record { 0 = destination i };
      depart = record { from = depart_from i; ideal = depart_ideal i; to = depart_to i };
      arrive = record { from = arrive_from i; ideal = arrive_ideal i; to = arrive_to i };
      wait_max = wait_max i;
      stops = stops i;
    }

-- a path specification has no place where it isn't in the list
pub place-none : (path : Path) (paths : List Path) → place_of path paths ≡ None → ¬ Contains paths path
place-none path paths none (k, l, f) =
    let test = λ (p : Path). bytes_eq (numbers_of path) (numbers_of p) in
    let passes : test (get_or paths k path) ≡ true = (bytes_decides (numbers_of path) (numbers_of (get_or paths k path))).1 (ap numbers_of (sym f)) in
    true≢false (sym (list_any_at test paths k path l passes) ∙ sym (list_any-position test paths) ∙ ap is_some none)

-- and it stands at its place
pub place-some : (path : Path) (paths : List Path) (i : ℕ) → place_of path paths ≡ Some i → (i < length paths) × (get_or paths i path ≡ path)
place-some path paths i found =
    let at = position-Some (λ (p : Path). bytes_eq (numbers_of path) (numbers_of p)) paths i path found in
    (at.0, sym (numbers-tell path (get_or paths i path) ((bytes_decides (numbers_of path) (numbers_of (get_or paths i path))).0 at.1)))
