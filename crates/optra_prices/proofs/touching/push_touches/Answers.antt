use Rattle.std.proofs.Common.{◌≡◌, ◌≤◌, ◌++◌, ℕ, List, true, length, drop, take, sym, subst, ◌∙◌, arith}
use Rattle.std.specs.Prelude.{All, Contains}
use Rattle.std.proofs.Math.Seq.{drop-append_seam}
use Rattle.std.proofs.lemmas.List.{take-append-drop}
use Rattle.std.proofs.lemmas.List.Elements.{All-append, All-contains_itself, All-drop, All-weaker}
use Rattle.optra_node.proofs.LeastLemmas.{at_contains, none_past}
use Rattle.optra_prices.specs.Tables.{Extends, AddsTouches}
use Rattle.optra_prices.proofs.NamedLemmas.{append_extends, adds_both}
use Rattle.optra_prices.proofs.NumberLemmas.{grows_extends, extends_more, adds_touch, all_touches, all_grows, adds_none}
use Rattle.optra_prices.proofs.touching.push_touches.Goals as goal

pub loop-k-init : goal.loop-k-init
loop-k-init g c = record {
  rows = c.requires.rows;
  extends = λ n row at. at;
  touches = adds_none _ _ (g.F.RowFamily.rows_used c.args.rows.now c.args.net.now c.args.kind c.args.leg) _;
}

pub loop-k-preserved : goal.loop-k-preserved
loop-k-preserved g c =
    let net = c.args.net.now in
    let f = c.args.rows.now in
    let rows = g.F.RowFamily.rows_of f net in
    let lists = g.met.F.RowFamily.lists_rows f net c.args.kind c.args.leg c.requires.usable in
    let at = sym c.touched.ensures ∙ c.in-Some.is in
    let number = c.in_ok-place.ensures in
    let old = c.loop-k.named.items in
    let new = c.name_row.new.named.items in
    let grown = grows_extends old new c.in-Some.row number.more in
    record {
      rows = all_grows (λ row. rows.is_row row ≡ true) old new c.in-Some.row number.more c.loop-k.invariant.rows
          (lists.are_rows c.in-Some.row ((lists.used c.in-Some.row).1 (at_contains (g.F.RowFamily.rows_used f net c.args.kind c.args.leg) c.loop-k.k c.in-Some.row at)));
      extends = extends_more _ old new c.loop-k.invariant.extends grown;
      touches = adds_touch old new (rows.uses c.args.kind c.args.leg) (g.F.RowFamily.rows_used f net c.args.kind c.args.leg) c.loop-k.k c.in_ok-place.place c.touched_use-uses.result c.in-Some.row _ _ _
          c.loop-k.invariant.touches grown at number.place c.touched_use-uses.ensures c.in_ok-push.ensures;
    }

pub returns-in_default : goal.returns-in_default
returns-in_default g c =
    let f = c.args.rows.now in
    let net = c.args.net.now in
    let used = g.F.RowFamily.rows_used f net c.args.kind c.args.leg in
    let past : length used ≤ c.loop-k.k = none_past used c.loop-k.k (sym c.touched.ensures ∙ c.in_default.is) in
    record {
      rows = c.loop-k.invariant.rows;
      extends = c.loop-k.invariant.extends;
      touches = all_touches _ _ used c.loop-k.k _ _ c.loop-k.invariant.touches past;
    }

-- the rows that are named at once are those that the leg uses from the place on
pub touch_named-requires-clause-used : goal.touch_named-requires-clause-used
touch_named-requires-clause-used g c =
    let used = g.F.RowFamily.rows_used c.args.rows.now c.args.net.now c.args.kind c.args.leg in
    let lasting = c.lasting_count-lasting.result in
    let known = c.loop-k.named.items in
    let start : c.len-start.result ≡ length known = c.len-start.ensures in
    let named : c.list_touched.new.list.items ≡ known ++ drop lasting used = c.in_ok-list_touched.ensures in
    let rest : drop c.len-start.result c.list_touched.new.list.items ≡ drop lasting used = (λ i. drop (start i) (named i)) ∙ drop-append_seam known (drop lasting used) in
    subst (All (Contains used)) (sym rest) (All-drop (Contains used) lasting used (All-contains_itself used))

pub returns : goal.returns
returns g c =
    let f = c.args.rows.now in
    let net = c.args.net.now in
    let rows = g.F.RowFamily.rows_of f net in
    let used = g.F.RowFamily.rows_used f net c.args.kind c.args.leg in
    let uses = rows.uses c.args.kind c.args.leg in
    let lists = g.met.F.RowFamily.lists_rows f net c.args.kind c.args.leg c.requires.usable in
    let lasting = c.lasting_count-lasting.result in
    let known = c.loop-k.named.items in
    let new = c.list_touched.new.list.items in
    let rest = drop lasting used in
    let pushed : new ≡ known ++ rest = c.in_ok-list_touched.ensures in
    let start : c.len-start.result ≡ length known = c.len-start.ensures in
    let left : drop c.len-start.result new ≡ rest = (λ i. drop (start i) (pushed i)) ∙ drop-append_seam known rest in
    let count : c.loop-k.k ≡ lasting = let last = c.loop-k-test.false in let end = c.loop-k.auto.k-end in omega (arith, last, end) in
    let extends : Extends known new = subst (Extends known) (sym pushed) (append_extends known rest) in
    let are : All (λ row. rows.is_row row ≡ true) used =
    All-weaker (Contains used) (λ row. rows.is_row row ≡ true) (λ row has. lists.are_rows row ((lists.used row).1 has)) used (All-contains_itself used) in
    let first : AddsTouches known uses (take lasting used) c.args.touches.now c.loop-k.touches =
    subst (λ (n : ℕ). AddsTouches known uses (take n used) c.args.touches.now c.loop-k.touches) count c.loop-k.invariant.touches in
    let later : AddsTouches new uses rest c.loop-k.touches c.touch_named.new.touches =
    subst (λ (more : List g.row.F-Row.Denot). AddsTouches new uses more c.loop-k.touches c.touch_named.new.touches) left c.in_ok-touch_named.ensures in
    record {
      rows = subst (All (λ row. rows.is_row row ≡ true)) (sym pushed) (All-append (λ row. rows.is_row row ≡ true) known rest c.loop-k.invariant.rows (All-drop (λ row. rows.is_row row ≡ true) lasting used are));
      extends = extends_more _ known new c.loop-k.invariant.extends extends;
      touches = subst (λ (more : List g.row.F-Row.Denot). AddsTouches new uses more c.args.touches.now c.touch_named.new.touches) (take-append-drop lasting used)
          (adds_both known new uses (take lasting used) rest c.args.touches.now c.loop-k.touches c.touch_named.new.touches first extends later);
    }

pub touched_use-uses-requires-clause-used : goal.touched_use-uses-requires-clause-used
touched_use-uses-requires-clause-used g c =
    at_contains (g.F.RowFamily.rows_used c.args.rows.now c.args.net.now c.args.kind c.args.leg) c.loop-k.k c.in-Some.row (sym c.touched.ensures ∙ c.in-Some.is)
