pub mod RoomLaws
pub mod Worked
