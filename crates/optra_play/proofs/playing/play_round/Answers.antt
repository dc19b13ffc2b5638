-- A round is played: its actions are taken, the bids that stand are planned and printed, and it is closed with their plan.
use Rattle.std.proofs.Common.{◌≡◌, ◌++◌, ℕ, List, refl, rules, sym, ap, ◌∙◌, subst}
use Rattle.std.specs.Prelude.{Contains, Vec}
use Rattle.std.specs.declared.alloc.Global.{Global}
use Rattle.std.proofs.lemmas.List.Elements.{All-map}
use Rattle.optra_network.specs.Names.{AllDiffer}
use Rattle.optra_network.specs.Net.{Net}
use Rattle.optra_bid.specs.Instances.{IsInstance}
use Rattle.optra_bid.specs.declared.bids.Bid.{Bid}
use Rattle.optra_auction.specs.Machine.{ArePlanned, State, after_round, spec_names}
use Rattle.optra_cert.specs.Writables.{AreFew}
use Rattle.optra_records.specs.Texts.{records_text}
use Rattle.optra_rounds.specs.Rounds.{acts_of, standing_specs, values_of}
use Rattle.optra_tables.specs.declared.TimedAct.{TimedAct}
use Rattle.optra_text.specs.RoundTexts.{round_records}
use Rattle.optra_play.specs.Certificates.{certificate_of}
use Rattle.optra_play.specs.Playing.{files_where, gap_after}
use Rattle.optra_frame.specs.Puts.{texts_of}
use Rattle.optra_play.proofs.PlayLemmas.{closed-after, instance-after, round-after, specs-after}
use Rattle.optra_play.proofs.playing.play_round.Goals as goal

pub new-inst-requires : goal.new-inst-requires
new-inst-requires g c =
    let old = c.args.playing.now in
    subst (IsInstance c.args.net.now) (sym c.deref.ensures.value)
    (instance-after c.args.net.now old.auction c.take_round.new.playing.auction (acts_of old.auction.round old.left.items) c.in_ok-bids.bids.items
    c.in_ok-outcomes.ensures.auction_is c.requires.paths c.in_ok-bids.ensures.few c.in_ok-bids.ensures.paths)

pub print_round-requires-clause-names : goal.print_round-requires-clause-names
print_round-requires-clause-names g c =
    let old = c.args.playing.now in
    let specs = specs-after old.auction c.take_round.new.playing.auction (acts_of old.auction.round old.left.items) c.in_ok-outcomes.ensures.auction_is in
    c.requires.names ∙ ap spec_names (sym specs)

pub finish_round-requires-clause-few : goal.finish_round-requires-clause-few
finish_round-requires-clause-few g c =
    subst (λ (net : Net). AreFew g.F.Row.Ord.cmp (g.F.RowFamily.rows_of c.args.rows.now net)) (sym c.new-inst.ensures.net) c.requires.few

pub finish_round-requires-clause-differ : goal.finish_round-requires-clause-differ
finish_round-requires-clause-differ g c =
    subst (λ (bids : List Bid). AllDiffer (spec_names bids)) (sym (c.new-inst.ensures.bids ∙ c.deref.ensures.value)) c.in_ok-bids.ensures.differ

pub finish_round-requires-clause-open : goal.finish_round-requires-clause-open
finish_round-requires-clause-open g c =
    let old = c.args.playing.now in
    closed-after old.auction c.take_round.new.playing.auction (acts_of old.auction.round old.left.items) c.in_ok-outcomes.ensures.auction_is ∙ c.requires.open

pub returns : goal.returns
returns g c =
    let net = c.args.net.now in
    let names = c.args.names.now in
    let old = c.args.playing.now in
    let new = c.finish_round.new.playing in
    let bids = c.in_ok-bids.bids.items in
    let plan = c.in_ok-plan.plan in
    let taken = c.in_ok-outcomes.ensures in
    let closed = c.in_ok-finish_round.ensures in
    let net_is : c.new-inst.result.net.now ≡ net = c.new-inst.ensures.net in
    let bids_are : c.new-inst.result.bids.now ≡ bids = c.new-inst.ensures.bids ∙ c.deref.ensures.value in
    let round_is = round-after old.auction c.take_round.new.playing.auction (acts_of old.auction.round old.left.items) taken.auction_is in
    let told = c.deref-2.ensures.value ∙ taken.told_are in
    let printed : c.in_ok-text.text.items ≡ records_text (round_records c.new-inst.result.net.now (record {
      round = c.take_round.new.playing.auction.round;
      outcomes = c.deref-2.result.now;
      bids = c.new-inst.result.bids.now;
      specs = standing_specs names c.take_round.new.playing.auction.standing;
      walks = plan.choice;
      revenue = plan.revenue;
      bound = plan.bound;
      nodes = plan.nodes;
      graphs = c.builds-graphs.result;
    })) = search (rules, c.in_ok-text.ensures) in
    record {
      p = record { before = old.auction; bids = bids; plan = plan; graphs = c.builds-graphs.result };
      before_is = refl;
      planned = subst (λ (s : State). ArePlanned s bids) taken.auction_is c.in_ok-bids.ensures.bids;
      is_plan = rw (c.new-inst.ensures.net, c.new-inst.ensures.bids, c.deref.ensures.value) at c.in_ok-plan.ensures.plan;
      held = rw closed.graphs_are (All-map (Contains c.plan_over.new.graphs.held) (λ (bid : Bid). bid.path) bids (rw (c.new-inst.ensures.bids, c.deref.ensures.value) at c.in_ok-plan.ensures.held));
      others = rw closed.graphs_are (rw (c.new-inst.ensures.bids, c.deref.ensures.value, taken.graphs_are) at c.in_ok-plan.ensures.others);
      kept = rw closed.graphs_are ((rw taken.graphs_are at c.in_ok-plan.ensures.kept) refl);
      differ = rw closed.graphs_are c.builds-graphs.ensures.differ;
      count = rw closed.graphs_are c.builds-graphs.ensures.count;
      network_is = rw closed.graphs_are (rw taken.graphs_are at c.in_ok-plan.ensures.network);
      auction_is = closed.auction_is ∙ (λ i. after_round (taken.auction_is i) (values_of (net_is i) (bids_are i) plan.choice));
      left_is = ap (λ (v : Vec TimedAct Global). v.items) closed.left_is ∙ taken.left_is;
      text_is =
          ap (λ (v : Vec ℕ Global). v.items) closed.text_is ∙ c.in_ok-extend_from_slice.ensures.items
          ∙ (λ i. (taken.text_is i).items ++ (c.deref-3.ensures.value ∙ printed ∙ (λ j. records_text (round_records (net_is j) (record {
            round = round_is j;
            outcomes = told j;
            bids = bids_are j;
            specs = standing_specs names (taken.auction_is j).standing;
            walks = plan.choice;
            revenue = plan.revenue;
            bound = plan.bound;
            nodes = plan.nodes;
            graphs = c.builds-graphs.result;
          })))) i);
      puts_are = closed.puts_are ∙ (λ i. texts_of (taken.puts_are i).items ++ files_where (g.F.RowText.texts_of c.args.rows.now) (net_is i) c.args.certs.now (round_is i) (bids_are i) (certificate_of plan));
      gap_is = closed.gap_is ∙ (λ i. gap_after (taken.gap_is i) plan);
    }
