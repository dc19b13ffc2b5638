-- Minutes through which stays last, counted one stay after the other.
use Rattle.std.proofs.Common.{◌≡◌, ℕ, ◌+◌, ◌≤◌, ◌<◌, List, [], ◌++◌, length, take, get_or, replicate, cond, ap, sym, ◌∙◌, arith}
use Rattle.std.proofs.lemmas.List.{length-replicate, get_or-replicate, length-take-le, take-append-le, take_all}
use Rattle.std.proofs.lemmas.List.Sums.{count_by-le-length, sum_by_more}
use Rattle.std.specs.Prelude.{min, nat_le, nat_lt, ◌&&◌}
use Rattle.std.proofs.lemmas.Bool.Decides.{nat_tests}
use Rattle.optra_audit.specs.declared.stays.Stay.{Stay}
use Rattle.optra_audit.specs.Stays.{AreCounts, HasRoom, IsOneMore, lasting}

-- the minutes of a stay that are within the two days
pub same_minutes : (from until first last minute m : ℕ) → last ≡ min until 2880 → first ≡ min from last → last ≤ minute → minute ≤ last → m < 2880
    → (nat_le first m && nat_lt m minute) ≡ (nat_le from m && nat_lt m until)
same_minutes from until first last minute m is_last is_first ended within day = grind (arith, nat_tests)

-- before the first stay nothing lasts
pub none_counted : (counts : List ℕ) → counts ≡ replicate 2880 0 → AreCounts [] counts
none_counted counts zeros = record { long = ap length zeros ∙ length-replicate {A = ℕ} 2880 0; are = λ m day. ap (λ xs. get_or xs m 0) zeros ∙ get_or-replicate {A = ℕ} 2880 m 0 0 day }

-- fewer last through a minute than there are stays, so each count can grow
pub have_room : (stays : List Stay) (counts : List ℕ) (i : ℕ) → length stays ≤ 8000000 → i < length stays → AreCounts (take i stays) counts → HasRoom counts
have_room stays counts i few within h = record {
  long = h.long;
  small = λ m day.
      let is = h.are m day in
      let most = count_by-le-length (λ (stay : Stay). nat_le stay.from m && nat_lt m stay.until) (take i stays) in
      let long = length-take-le i stays (omega (arith, within)) in
      omega (arith, is, most, long, few, within);
}

-- one stay more is one more in each of its minutes
pub counts_more : (stays : List Stay) (old new : List ℕ) (i : ℕ) (stay : Stay) → i < length stays → AreCounts (take i stays) old → IsOneMore (get_or stays i stay) old new → AreCounts (take (i + 1) stays) new
counts_more stays old new i stay within h more = record {
  long = more.long;
  are = λ m day.
      more.are m day ∙ ap (λ (n : ℕ). n + lasting (get_or stays i stay) m) (h.are m day)
      ∙ sym (sum_by_more (λ (s : Stay). cond (nat_le s.from m && nat_lt m s.until) 1 0) stays i stay within);
}

-- a list that is written over another of its length is that list
pub written : (n : ℕ) (new rest : List ℕ) → length new ≡ n → take n (new ++ rest) ≡ new
written n new rest long = take-append-le n new rest (omega (arith, long)) ∙ take_all n new (omega (arith, long))
