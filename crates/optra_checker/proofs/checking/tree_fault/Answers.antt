use Rattle.std.proofs.Common.{◌∙◌, List, length, sym, ap, subst, rules, w64}
use Rattle.std.specs.Prelude.{All, FitsSigned}
use Rattle.std.proofs.lemmas.Int.{to_z-of_z}
use Rattle.optra_node.specs.declared.Item.{Item}
use Rattle.optra_node.specs.Trees.{IsTree, places}
use Rattle.optra_node.specs.Certificates.{IsFormedItem, SplitsUndecided, EndsDead, HasPrices, IsGreatestBound}
use Rattle.optra_cert.specs.Certs.{Cert}
use Rattle.optra_open.proofs.AtLemmas.{not_both}
use Rattle.optra_checker.proofs.checking.tree_fault.Goals as goal

pub splits_hold-requires-clause-whole : goal.splits_hold-requires-clause-whole
splits_hold-requires-clause-whole g c = subst IsTree (sym c.items-tree.ensures) c.requires.formed.whole

pub splits_hold-requires-clause-items : goal.splits_hold-requires-clause-items
splits_hold-requires-clause-items g c =
    subst (All (IsFormedItem g.F.Row.Ord.cmp c.args.inst.net.now (length c.args.inst.bids.now))) (sym c.items-tree.ensures) c.requires.formed.items

pub returns-then-not-branch : goal.returns-then-not-branch
returns-then-not-branch g c =
    let Splits = λ (tree : List (Item g.row.F-Row.Denot)). All (λ p. SplitsUndecided p.0 p.1) (places tree) in (
      c.requires.choice,
      λ h. not_both c.in_ok-splits_hold.field-0 c.if-not-branch.true (c.in_ok-splits_hold.ensures.1 (subst Splits (sym c.items-tree.ensures) h)),
    )

pub leaves_hold-requires-clause-whole : goal.leaves_hold-requires-clause-whole
leaves_hold-requires-clause-whole g c = subst IsTree (sym c.items-tree.ensures) c.requires.formed.whole

pub leaves_hold-requires-clause-items : goal.leaves_hold-requires-clause-items
leaves_hold-requires-clause-items g c =
    subst (All (IsFormedItem g.F.Row.Ord.cmp c.args.inst.net.now (length c.args.inst.bids.now))) (sym c.items-tree.ensures) c.requires.formed.items

pub leaves_hold-requires-clause-splits : goal.leaves_hold-requires-clause-splits
leaves_hold-requires-clause-splits g c = c.in_ok-splits_hold.ensures.0 c.if-not-branch.false

pub bound_holds-requires : goal.bound_holds-requires
bound_holds-requires g c = record {
  whole = subst IsTree (sym c.items-tree.ensures) c.requires.formed.whole;
  items = subst (All (IsFormedItem g.F.Row.Ord.cmp c.args.inst.net.now (length c.args.inst.bids.now))) (sym c.items-tree.ensures) c.requires.formed.items;
  splits = c.in_ok-splits_hold.ensures.0 c.if-not-branch.false;
  prices = c.prices_hold.ensures.0 c.if-not-prices_hold.false;
}

pub returns-then-not-branch-2 : goal.returns-then-not-branch-2
returns-then-not-branch-2 g c =
    let net = c.args.inst.net.now in
    let bids = c.args.inst.bids.now in
    let rows = g.F.RowFamily.rows_of c.args.rows.now net in
    let Splits = λ (tree : List (Item g.row.F-Row.Denot)). All (λ p. SplitsUndecided p.0 p.1) (places tree) in
    let Leaves = λ (tree : List (Item g.row.F-Row.Denot)). All (λ p. EndsDead net rows bids p.0 p.1) (places tree) in
    let is = c.items-tree.ensures in (
      c.requires.choice,
      subst Splits is (c.in_ok-splits_hold.ensures.0 c.if-not-branch.false),
      λ h. not_both c.in_ok-leaves_hold.field-0 c.if-not-branch-2.true (c.in_ok-leaves_hold.ensures.1 (subst Leaves (sym is) h)),
    )

pub returns-then-not-prices_hold : goal.returns-then-not-prices_hold
returns-then-not-prices_hold g c =
    let net = c.args.inst.net.now in
    let bids = c.args.inst.bids.now in
    let rows = g.F.RowFamily.rows_of c.args.rows.now net in
    let Splits = λ (tree : List (Item g.row.F-Row.Denot)). All (λ p. SplitsUndecided p.0 p.1) (places tree) in
    let Leaves = λ (tree : List (Item g.row.F-Row.Denot)). All (λ p. EndsDead net rows bids p.0 p.1) (places tree) in
    let is = c.items-tree.ensures in (
      c.requires.choice,
      subst Splits is (c.in_ok-splits_hold.ensures.0 c.if-not-branch.false),
      subst Leaves is (c.in_ok-leaves_hold.ensures.0 c.if-not-branch-2.false),
      λ h. not_both c.prices_hold.result c.if-not-prices_hold.true (c.prices_hold.ensures.1 (subst (All (HasPrices rows)) (sym is) h)),
    )

pub returns-then-not-branch-3 : goal.returns-then-not-branch-3
returns-then-not-branch-3 g c =
    let net = c.args.inst.net.now in
    let bids = c.args.inst.bids.now in
    let rows = g.F.RowFamily.rows_of c.args.rows.now net in
    let Splits = λ (tree : List (Item g.row.F-Row.Denot)). All (λ p. SplitsUndecided p.0 p.1) (places tree) in
    let Leaves = λ (tree : List (Item g.row.F-Row.Denot)). All (λ p. EndsDead net rows bids p.0 p.1) (places tree) in
    let is = c.items-tree.ensures in
    let fits : FitsSigned w64 c.cert.inside.bound = search rules in
    let stated = to_z-of_z w64 c.cert.inside.bound fits ∙ ap (λ (v : Cert g.row.F-Row.Denot). v.bound) c.cert.view_is in (
      c.requires.choice,
      subst Splits is (c.in_ok-splits_hold.ensures.0 c.if-not-branch.false),
      subst Leaves is (c.in_ok-leaves_hold.ensures.0 c.if-not-branch-2.false),
      subst (All (HasPrices rows)) is (c.prices_hold.ensures.0 c.if-not-prices_hold.false),
      λ h. not_both c.in_ok-bound_holds.field-0 c.if-not-branch-3.true (c.in_ok-bound_holds.ensures.1
          (subst (IsGreatestBound net rows bids c.items-tree.result.now) (sym stated) (subst (λ tree. IsGreatestBound net rows bids tree c.args.cert.now.bound) (sym is) h))),
    )

pub returns : goal.returns
returns g c =
    let net = c.args.inst.net.now in
    let bids = c.args.inst.bids.now in
    let rows = g.F.RowFamily.rows_of c.args.rows.now net in
    let Splits = λ (tree : List (Item g.row.F-Row.Denot)). All (λ p. SplitsUndecided p.0 p.1) (places tree) in
    let Leaves = λ (tree : List (Item g.row.F-Row.Denot)). All (λ p. EndsDead net rows bids p.0 p.1) (places tree) in
    let is = c.items-tree.ensures in
    let fits : FitsSigned w64 c.cert.inside.bound = search rules in
    let stated = to_z-of_z w64 c.cert.inside.bound fits ∙ ap (λ (v : Cert g.row.F-Row.Denot). v.bound) c.cert.view_is in
    record {
      splits = subst Splits is (c.in_ok-splits_hold.ensures.0 c.if-not-branch.false);
      dead = subst Leaves is (c.in_ok-leaves_hold.ensures.0 c.if-not-branch-2.false);
      prices = subst (All (HasPrices rows)) is (c.prices_hold.ensures.0 c.if-not-prices_hold.false);
      bound_is = subst (λ tree. IsGreatestBound net rows bids tree c.args.cert.now.bound) is (subst (IsGreatestBound net rows bids c.items-tree.result.now) stated (c.in_ok-bound_holds.ensures.0 c.if-not-branch-3.false));
    }
