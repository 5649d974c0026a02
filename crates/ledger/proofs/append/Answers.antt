-- `append` is the model's append: the index gets the debt, it is stored in the place after the last one, and the count is one more.
use Rattle.ledger.proofs.ModelLaws.{append_by_stores}
use Rattle.ledger.proofs.append.Goals as goal

pub returns : goal.returns
returns c = let stores = append_by_stores _ _ in
    rw (c.set_count.ensures, c.put.ensures, c.add_to_index.ensures, c.count-count.ensures) stores
