-- Lemmas on gets, one after the other.
use Rattle.std.proofs.Common.{◌≡◌, ℕ, ◌<◌, List, [], ◌∷◌, ◌++◌, length, true, ap, ◌∙◌, subst, arith, refl, Some, None, sym, append_assoc, append-nil, Err, string_bytes, IsSomeAnd, ◌≤◌}
use Rattle.std.specs.FinMap.{get}
use Rattle.optra_outside.specs.Shelf.{ShelfState, GetLeaves, GetCause, Answers}
use Rattle.optra_outside.specs.declared.shelves.ShelfError.{ShelfError}
use Rattle.optra_outside.specs.declared.shelves.ShelfError.TheVariants.{Absent, Failed, TooLong, NoMemory}
use Rattle.optra_frame.specs.declared.files.Asked.{Asked}
use Rattle.optra_frame.specs.Commands.{Meaning}
use Rattle.optra_frame.specs.Files.{File, Held, Contents, HoldsFile, HoldsAll, file_asked}
use Rattle.optra_frame.specs.Gets.{Follows, AreAsked, AreWhole, IsNext}
use Rattle.optra_frame.specs.Faults.{fault_of, EndsGets}

pub GetLeaves-itself : (a : ShelfState) → GetLeaves a a
GetLeaves-itself a = record {
  tells = refl;
  files = refl;
  limit = refl;
  write_faults = refl;
  read_faults = omega arith;
  absences = omega arith;
  overlong = omega arith;
}

pub GetLeaves-trans : (a b c : ShelfState) → GetLeaves a b → GetLeaves b c → GetLeaves a c
GetLeaves-trans a b c p q = record {
  tells = q.tells ∙ p.tells;
  files = q.files ∙ p.files;
  limit = q.limit ∙ p.limit;
  write_faults = q.write_faults ∙ p.write_faults;
  read_faults = omega (arith, p.read_faults, q.read_faults);
  absences = omega (arith, p.absences, q.absences);
  overlong = omega (arith, p.overlong, q.overlong);
}

-- ---- one file more

HoldsAll-push : (shelf : ShelfState) (contents : Contents) (held : Held) → HoldsAll shelf contents → HoldsFile shelf held → HoldsAll shelf (contents ++ held ∷ [])
HoldsAll-push shelf [] held all one = (one, tt)
HoldsAll-push shelf (h ∷ rest) held all one = (all.0, HoldsAll-push shelf rest held all.1 one)

-- a file that a shelf holds after gets was held before them
HoldsFile-before : (before mid : ShelfState) (held : Held) → GetLeaves before mid → (get mid.files held.file.name ≡ Some held.content) × (length held.content ≤ mid.limit) → HoldsFile before held
HoldsFile-before before mid held leaves (there, within) = record {
  there = ap (λ files. get files held.file.name) (sym leaves.files) ∙ there;
  within = subst (λ n. length held.content ≤ n) leaves.limit within;
}

-- one file more is held
pub held-more : (before mid : ShelfState) (contents more : Contents) (held : Held) → more ≡ contents ++ held ∷ [] → GetLeaves before mid → (before.tells ≡ true → HoldsAll before contents)
    → (mid.tells ≡ true → (get mid.files held.file.name ≡ Some held.content) × (length held.content ≤ mid.limit)) → before.tells ≡ true → HoldsAll before more
held-more before mid contents more held push leaves sofar one tells =
    let all = HoldsAll-push before contents held (sofar tells) (HoldsFile-before before mid held leaves (one (leaves.tells ∙ tells))) in
    subst (λ l. HoldsAll before l) (sym push) all

too_long-before : (before mid : ShelfState) (name : List ℕ) → GetLeaves before mid → (bytes : List ℕ) × (get mid.files name ≡ Some bytes) × (mid.limit < length bytes) → IsSomeAnd (get before.files name) (λ content. before.limit < length content)
too_long-before before mid name leaves (bytes, is, long) =
    let there : get before.files name ≡ Some bytes = ap (λ files. get files name) (sym leaves.files) ∙ is in
    subst (λ o. IsSomeAnd o (λ content. before.limit < length content)) (sym there) (subst (λ n. n < length bytes) leaves.limit long)

module _ (command : Meaning) where
  Follows-push : (first rest : Contents) (held : Held) → Follows command first rest → command.next_file (first ++ rest) ≡ Some held.file → Follows command first (rest ++ held ∷ [])
  Follows-push first [] held asked next = (subst (λ l. command.next_file l ≡ Some held.file) (append-nil first) next, tt)
  Follows-push first (h ∷ rest) held asked next =
      (asked.0, Follows-push (first ++ h ∷ []) rest held asked.1 (subst (λ l. command.next_file l ≡ Some held.file) (sym (append_assoc first (h ∷ []) rest)) next))

  -- a file that is asked for after these was got
  pub asked-more : (contents more : Contents) (held : Held) → more ≡ contents ++ held ∷ [] → AreAsked command contents → Some held.file ≡ command.next_file contents → AreAsked command more
  asked-more contents more held push asked next =
      let all = Follows-push [] contents held asked (sym next) in
      subst (λ l. AreAsked command l) (sym push) all

  -- ---- a get that is refused

  pub ends_gets : {T : Type 0} (before mid now : ShelfState) (contents : Contents) (asked : Asked) (why : ShelfError) → AreAsked command contents → Some (file_asked asked) ≡ command.next_file contents → GetLeaves before mid
      → (before.tells ≡ true → HoldsAll before contents) → GetCause {T = T} mid now (Err why) → (mid.tells ≡ true → Answers mid.files mid.limit (string_bytes asked.name) (Err why)) → EndsGets command before now (fault_of why asked.name)
  ends_gets before mid now contents asked Failed sofar next leaves held cause answer = record {
    contents = contents;
    asked = sofar;
    next = (asked.role, sym next);
    failed = λ _. let rose = cause.failed refl in omega (arith, rose, leaves.read_faults);
    absent = λ e. absurd (cc);
    too_long = λ e. absurd (cc);
    earlier = held;
  }
  ends_gets before mid now contents asked Absent sofar next leaves held cause answer = record {
    contents = contents;
    asked = sofar;
    next = (asked.role, sym next);
    failed = λ e. absurd (cc);
    absent = λ _. (let rose = cause.absent refl in omega (arith, rose, leaves.absences), λ tells. ap (λ files. get files (string_bytes asked.name)) (sym leaves.files) ∙ answer (leaves.tells ∙ tells));
    too_long = λ e. absurd (cc);
    earlier = held;
  }
  ends_gets before mid now contents asked TooLong sofar next leaves held cause answer = record {
    contents = contents;
    asked = sofar;
    next = (asked.role, sym next);
    failed = λ e. absurd (cc);
    absent = λ e. absurd (cc);
    too_long = λ _. (let rose = cause.too_long refl in omega (arith, rose, leaves.overlong), λ tells. too_long-before before mid (string_bytes asked.name) leaves (answer (leaves.tells ∙ tells)));
    earlier = held;
  }
  ends_gets before mid now contents asked NoMemory sofar next leaves held cause answer = tt

  -- ---- files that are held

  same : (shelf : ShelfState) (a b : Held) → a.file ≡ b.file → HoldsFile shelf a → HoldsFile shelf b → a ≡ b
  same shelf a b file p q =
      let there : Some a.content ≡ Some b.content = sym p.there ∙ ap (λ (f : File). get shelf.files f.name) file ∙ q.there in
      let content : a.content ≡ b.content = cc in
      λ i. record { file = file i; content = content i }

  same-next : (contents : Contents) (a b : File) → command.next_file contents ≡ Some a → command.next_file contents ≡ Some b → a ≡ b
  same-next contents a b p q = let both : Some a ≡ Some b = sym p ∙ q in cc

  -- what a shelf holds of a command's files is one list
  same-held : (shelf : ShelfState) (first contents others : Contents) → Follows command first contents → Follows command first others → HoldsAll shelf contents → HoldsAll shelf others
      → command.next_file (first ++ contents) ≡ None → command.next_file (first ++ others) ≡ None → contents ≡ others
  same-held shelf first [] [] p q hp hq np nq = refl
  same-held shelf first [] (b ∷ bs) p q hp hq np nq =
      let none : command.next_file first ≡ None = subst (λ l. command.next_file l ≡ None) (append-nil first) np in
      let some = q.0 in absurd (cc)
  same-held shelf first (a ∷ as') [] p q hp hq np nq =
      let none : command.next_file first ≡ None = subst (λ l. command.next_file l ≡ None) (append-nil first) nq in
      let some = p.0 in absurd (cc)
  same-held shelf first (a ∷ as') (b ∷ bs) p q hp hq np nq =
      let head : a ≡ b = same shelf a b (same-next first a.file b.file p.0 q.0) hp.0 hq.0 in
      let rest : as' ≡ bs = same-held shelf (first ++ a ∷ []) as' bs p.1 (subst (λ h. Follows command (first ++ h ∷ []) bs) (sym head) q.1) hp.1 hq.1
      (subst (λ l. command.next_file l ≡ None) (sym (append_assoc first (a ∷ []) as')) np)
      (subst (λ h. command.next_file ((first ++ h ∷ []) ++ bs) ≡ None) (sym head) (subst (λ l. command.next_file l ≡ None) (sym (append_assoc first (b ∷ []) bs)) nq)) in
      λ i. head i ∷ rest i

  -- the file after some of them is held
  next-held : (shelf : ShelfState) (first some contents : Contents) (file : File) → Follows command first some → Follows command first contents → HoldsAll shelf some → HoldsAll shelf contents
      → command.next_file (first ++ some) ≡ Some file → command.next_file (first ++ contents) ≡ None → (content : List ℕ) × HoldsFile shelf (record { file = file; content = content })
  next-held shelf first [] [] file p q hp hq np nq = absurd (cc)
  next-held shelf first [] (b ∷ bs) file p q hp hq np nq =
      let next : command.next_file first ≡ Some file = subst (λ l. command.next_file l ≡ Some file) (append-nil first) np in
      let is : b.file ≡ file = same-next first b.file file q.0 next in
      (b.content, record { there = ap (λ (f : File). get shelf.files f.name) (sym is) ∙ hq.0.there; within = hq.0.within })
  next-held shelf first (a ∷ as') [] file p q hp hq np nq =
      let none : command.next_file first ≡ None = subst (λ l. command.next_file l ≡ None) (append-nil first) nq in
      let some = p.0 in absurd (cc)
  next-held shelf first (a ∷ as') (b ∷ bs) file p q hp hq np nq =
      let head : a ≡ b = same shelf a b (same-next first a.file b.file p.0 q.0) hp.0 hq.0 in
      next-held shelf (first ++ a ∷ []) as' bs file p.1 (subst (λ h. Follows command (first ++ h ∷ []) bs) (sym head) q.1) hp.1 hq.1
      (subst (λ l. command.next_file l ≡ Some file) (sym (append_assoc first (a ∷ []) as')) np)
      (subst (λ h. command.next_file ((first ++ h ∷ []) ++ bs) ≡ None) (sym head) (subst (λ l. command.next_file l ≡ None) (sym (append_assoc first (b ∷ []) bs)) nq))

-- a command gets one list of contents from a shelf
pub one-contents : (command : Meaning) (shelf : ShelfState) (contents others : Contents) → AreWhole command contents → AreWhole command others → HoldsAll shelf contents → HoldsAll shelf others → contents ≡ others
one-contents command shelf contents others p q hp hq = same-held command shelf [] contents others p.asked q.asked hp hq p.no_more q.no_more

-- a name that a command gets is held, where all its files are
pub name-held : (command : Meaning) (shelf : ShelfState) (some contents : Contents) (name : List ℕ) → AreAsked command some → AreWhole command contents → HoldsAll shelf some → HoldsAll shelf contents → IsNext command some name
    → (content : List ℕ) × (get shelf.files name ≡ Some content) × (length content ≤ shelf.limit)
name-held command shelf some contents name asked whole held all (role, next) =
    let (content, holds) = next-held command shelf [] some contents (record { role = role; name = name }) asked whole.asked held all next whole.no_more in
    (content, holds.there, holds.within)
