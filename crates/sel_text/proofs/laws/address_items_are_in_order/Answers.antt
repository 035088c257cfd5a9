use Rattle.sel_text.proofs.Orders.{item_in_order}
use Rattle.sel_text.proofs.laws.address_items_are_in_order.Goals as goal

pub returns : goal.returns
returns c = item_in_order
