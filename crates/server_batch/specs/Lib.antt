-- What a batch makes of the server.
pub mod Pushing
