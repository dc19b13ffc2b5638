-- The partners whose minutes are in the day stand together.
use Rattle.std.proofs.Common.{◌≡◌, ◌&&◌, ◌+◌, ◌-◌, ◌<◌, ℕ, zero, suc, Bool, true, false, Some, List, [], ◌∷◌, ◌++◌, length, drop, map, get_or, slice_get, refl, ap, ◌∙◌, arith}
use Rattle.std.proofs.lemmas.Bool.{and_from}
use Rattle.std.proofs.lemmas.Option.{slice_get-map, slice_get-get_or}
use Rattle.std.specs.Option.{option_map}
use Rattle.optra_network.specs.declared.Partner.{Partner}
use Rattle.optra_network.specs.declared.TrackId.{TrackId}
use Rattle.optra_network.specs.declared.TypeId.{TypeId}
use Rattle.optra_rows.specs.Headways.{IsFirstOver, IsFirstStarted, is_started, is_not_over, in_day, pair_of}
use Rattle.optra_rows.proofs.CountLemmas.{PassesFromTo, slice_get-from_to}

right_false : (a b : Bool) → b ≡ false → (a && b) ≡ false
right_false true b e = e
right_false false b e = refl

-- those from the first that is started up to the first that is over
pub day_from_to : (time : ℕ) (partners : List Partner) (start over : ℕ) → IsFirstStarted time partners start → IsFirstOver time partners over
    → PassesFromTo (λ partner. is_started time partner && is_not_over time partner) partners start over
day_from_to time partners start over started ends = record {
  within = ends.within;
  early = λ k d l w. ap (λ b. b && is_not_over time (get_or partners k d)) (started.before k d l);
  inside = λ k d l u. and_from _ _ (started.after k d l (let w = ends.within in omega (arith, w, u))) (ends.before k d u);
  late = λ k d l w. right_false _ _ (ends.after k d l w);
}

-- the row of such a partner
pub pair_in_day : (track : TrackId) (kind : TypeId) (time : ℕ) (partners : List Partner) (start over k n : ℕ) (d : Partner) → IsFirstStarted time partners start → IsFirstOver time partners over → start + n ≡ k → k < over
    → slice_get (map (pair_of track kind time) (in_day time partners)) n ≡ Some (pair_of track kind time (get_or partners k d))
pair_in_day track kind time partners start over k n d started ends e l =
    slice_get-map (pair_of track kind time) (in_day time partners) n
    ∙ ap (option_map (pair_of track kind time))
    (slice_get-from_to (λ partner. is_started time partner && is_not_over time partner) partners start over (day_from_to time partners start over started ends) n (omega (arith, e, l))
    ∙ ap (slice_get partners) e
    ∙ slice_get-get_or partners k d (let w = ends.within in omega (arith, w, l)))

-- what is left of two lists
pub drop_both : {X : Type 0} (n : ℕ) (xs ys : List X) → drop n (xs ++ ys) ≡ drop n xs ++ drop (n - length xs) ys
drop_both zero xs ys = ap (λ m. xs ++ drop m ys) (let e : zero ≡ zero - length xs = omega arith in e)
drop_both (suc n) [] ys = ap (λ m. drop m ys) (let e : suc n ≡ suc n - 0 = omega arith in e)
drop_both (suc n) (x ∷ xs) ys = drop_both n xs ys ∙ ap (λ m. drop n xs ++ drop m ys) (let e : n - length xs ≡ suc n - length (x ∷ xs) = omega arith in e)
