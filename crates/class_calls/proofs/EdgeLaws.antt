-- Every row of the table of edges holds, by one computation from the rules.
use mathlib.Core.Path.{◌≡◌, refl}
use mathlib.Core.Bool.{true}
use Rattle.arith.specs.Arith.{ceil_div}
use Rattle.rows.specs.Rows.{rows, unrow}
use Rattle.held.specs.Layout.{table_in}
use Rattle.index.specs.Walk as Index
use Rattle.held.specs.Held.{removed}
use Rattle.held.specs.Round as Round
use Rattle.bucket.specs.Bucket.{shortfall_at, grown, wait_at, asked}
use Rattle.settings.specs.Powers.{exponent_from, exponent_for}
use Rattle.settings.specs.Rate as Rate
use Rattle.settings.specs.Settings as Settings
use Rattle.classes.specs.Chains as Chains
use Rattle.classes.specs.Classes as Classes
use Rattle.classes.specs.Layout as ClassLayout
use Rattle.ledger.specs.Layout as Debts
use Rattle.ledger.specs.Model as Ledger
use Rattle.shard_map.specs.Layout as Layout
use Rattle.shard_map.specs.Model as Shard
use Rattle.evict.specs.Evict.{noted, walk_from, walked, evicted}
use Rattle.shard.specs.Model as OneShard
use Rattle.store.specs.Refusals as Refusals
use Rattle.rules.specs.Asks as Asks
use Rattle.rules.specs.Rules as Rules
use Rattle.class_calls.specs.Edges.{all_hold, edges}

pub every_edge_holds : all_hold edges ≡ true
unfolding ceil_div rows unrow table_in removed Index.onward Index.walk_from Index.walk Index.find_from Index.find Index.seek Index.add
    Index.add_again Index.rehome Index.vacate Index.renumber Index.remove
    Round.look_at Round.look Round.sweep shortfall_at grown wait_at asked
    Rate.unless_within Rate.rate_refusal Settings.size_refusal Settings.first_refusal exponent_from exponent_for
    Debts.ledger Debts.words_of Ledger.place_of Ledger.remove_at Ledger.append Ledger.owed_by Ledger.taken Ledger.sweep
    Ledger.scan_from Ledger.scan Ledger.drop_chosen Ledger.make_room Ledger.recorded_at Ledger.recorded
    Layout.shard Layout.words_of Shard.place_of Shard.remove_at Shard.insert Shard.sweep_idle
    noted walk_from walked evicted OneShard.make_room OneShard.with_existing OneShard.admit OneShard.with_or_insert
    Refusals.memory_refusal Refusals.total_refusal Refusals.count_refusal Refusals.moment_refusal
    ClassLayout.classes_in ClassLayout.buckets_in Classes.class_at Classes.ends Classes.count_refusal Classes.number_refusal Classes.chain_refusal
    Classes.refused_by
    Classes.first_from Chains.chain Chains.bucket_at Chains.least_burst Chains.chain_wait Chains.charged
    Asks.closed Asks.asked_in Asks.passed_in Rules.unless_refused Rules.set_up_in Rules.keyed_rule_in
every_edge_holds = refl
