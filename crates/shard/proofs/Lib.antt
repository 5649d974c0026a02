pub mod RoomLaws
pub mod ShardLaws
pub mod OwnBucketLaws
pub mod ModelLaws
pub mod DueLaws
pub mod AlikeLaws
pub mod PlaceOrderLaws
pub mod TurnAwayLaws
